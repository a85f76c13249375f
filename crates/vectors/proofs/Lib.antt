mod Sponge
mod Layouts
mod Samples
mod Groups

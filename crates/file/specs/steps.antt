-- What private steps of the program do, for the proofs alone: no contract of a public call cites them.
pub mod Contents
pub mod Line
pub mod Reader
pub mod Sale

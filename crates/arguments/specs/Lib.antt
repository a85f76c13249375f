pub mod Notice

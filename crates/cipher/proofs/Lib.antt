pub mod Bytes
pub mod XorLaws
mod StreamLaws
mod MaskLaws
mod PartLaws
mod SumLaws
mod GroupLaws
mod RoomLaws
mod TagLaws
mod AnswerLaws
pub mod Laws

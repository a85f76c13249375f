pub mod LetterLaws
mod Writing
mod TermsLaws
pub mod HeadLaws
mod BidLaws
pub mod PenLaws
pub mod Laws
pub mod ReadingLaws
mod Whole

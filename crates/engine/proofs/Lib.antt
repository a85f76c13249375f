mod BitMoves
pub mod BlockLaws
pub mod CallLaws
pub mod Laws

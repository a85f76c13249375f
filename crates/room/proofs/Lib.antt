mod CodePages
mod CodeChecks
mod CodeSlots
mod CodeReading
mod CodeLodging
mod CodeMaking
mod CodeTags
mod CodeOffers
mod CodeSheets
mod Law
mod Verdicts
mod Holding
mod Order
mod Bids
mod Secret
mod Pages
mod Chains
mod Amounts
mod Histories
mod Registers
mod ClosedRooms
mod SealedBids
mod Standings
mod RoomsWith
mod Occurring
mod Whole
mod Lot17
mod CallLaws
pub mod AnswerLaws
pub mod RegisterLaws
pub mod HistoryLaws
pub mod PageLaws

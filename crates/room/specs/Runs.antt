-- Rooms and what they have met since their making, each call upon what the earlier ones left.
use Rattle.std.specs.Prelude.{◌≡◌, ℕ, List, [], ◌∷◌, take, Ok, Err}
use Rattle.engine.specs.declared.variants.Variant.{Variant}
use Rattle.room.specs.Sales.{Bytes, Sale, Lodging, Genuine, StandingAmount}
use Rattle.room.specs.Calls.{Call, Answer, LodgingOf, Asking, Closing, Opening, Met}
use Rattle.room.specs.Making.{Made}
use Rattle.room.specs.Opening.{Lent, Opened}
use Rattle.room.specs.declared.slots.Phase.TheVariants.{Closed as PhaseClosed}
use Rattle.room.specs.declared.state.RoomState.{RoomState}

-- A call with the answer that it got.
pub data Meeting : Type 0 where
  met_with : Call → Answer → Meeting

-- Calls one after the other, each upon what the earlier ones left, from one place to another, above engines of a variant.
pub data Runs (v : Variant) : RoomState → List Meeting → RoomState → Type 0 where
  none : {r : RoomState} → Runs v r [] r
  more :
      {r t u : RoomState} {c : Call} {a : Answer} {ms : List Meeting} → Met v r c a t → Runs v t ms u
      → Runs v r (met_with c a ∷ ms) u

-- The calls of a list of meetings.
abbrev pub calls_of : List Meeting → List Call
calls_of [] = []
calls_of (met_with c a ∷ ms) = c ∷ calls_of ms

-- The lodgings, granted or refused, before the closing that was granted.
abbrev pub lodgings_before_closing : List Meeting → List Lodging
lodgings_before_closing [] = []
lodgings_before_closing (met_with (LodgingOf l) a ∷ ms) = l ∷ lodgings_before_closing ms
lodgings_before_closing (met_with (Asking b) a ∷ ms) = lodgings_before_closing ms
lodgings_before_closing (met_with Closing (Ok n) ∷ ms) = []
lodgings_before_closing (met_with Closing (Err f) ∷ ms) = lodgings_before_closing ms
lodgings_before_closing (met_with (Opening o) a ∷ ms) = lodgings_before_closing ms

-- The answers up to and with the closing that was granted.
abbrev pub answers_to_closing : List Meeting → List Answer
answers_to_closing [] = []
answers_to_closing (met_with (LodgingOf l) a ∷ ms) = a ∷ answers_to_closing ms
answers_to_closing (met_with (Asking b) a ∷ ms) = a ∷ answers_to_closing ms
answers_to_closing (met_with Closing (Ok n) ∷ ms) = Ok n ∷ []
answers_to_closing (met_with Closing (Err f) ∷ ms) = Err f ∷ answers_to_closing ms
answers_to_closing (met_with (Opening o) a ∷ ms) = a ∷ answers_to_closing ms

-- A room that has met nothing since its making but these calls: the sale that it was made for, the place before and after the making, the
-- meetings, and the place as it is. Two rooms are alike where their sales are equal.
pub record History : Type 0 where
  pub sale : Sale
  pub before : RoomState
  pub start : RoomState
  pub meetings : List Meeting
  pub room : RoomState
  pub made : Made sale before (Ok tt) start
  pub runs : Runs sale.variant start meetings room

-- The room is closed.
abbrev pub IsClosed : History → Type 0
IsClosed x = x.room.phase ≡ PhaseClosed

-- The lodgings before closing.
abbrev pub lodgings : History → List Lodging
lodgings x = lodgings_before_closing x.meetings

abbrev pub GenuineIn : History → Lodging → Type 0
GenuineIn x l = Genuine x.sale l

-- n is the standing amount of the bidder b.
abbrev pub Stands : History → ℕ → ℕ → Type 0
Stands x b n = StandingAmount x.sale (lodgings x) b n

-- A granted opening of a place, above an engine of a variant, writes the bytes p to the page place.
pub record OpeningPrints (v : Variant) (r : RoomState) (p : Bytes) : Type 0 where
  pub given : Lent
  pub long : ℕ
  pub given_back : Lent
  pub after : RoomState
  pub opened : Opened v r given (Ok long) given_back after
  pub written : take long given_back.page ≡ p

-- A room prints the bytes p: a granted opening, now or after more calls, writes them.
pub record Prints (x : History) (p : Bytes) : Type 0 where
  pub more_calls : List Meeting
  pub later : RoomState
  pub runs : Runs x.sale.variant x.room more_calls later
  pub opening : OpeningPrints x.sale.variant later p

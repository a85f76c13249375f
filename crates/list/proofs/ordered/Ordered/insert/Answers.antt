use Rattle.std.proofs.Common.{refl}
use Rattle.list.specs.Insertion.{refusal}
use Rattle.list.proofs.Granted.{not_refused, granted, ahead_of, ahead_within, answer_is, count_is, places_are, rising_after, gains_after}
use Rattle.list.proofs.ordered.Ordered.insert.Goals as goal

pub store_at-requires : goal.store_at-requires
store_at-requires g c =
    let order = g.T.Entry.compares in
    let e = c.args.e in
    let ps = c.args.self.now.places.now in
    let n = c.args.self.now.count in
    let found = ahead_of order e ps n c.count_ahead-at.result c.entries.result.now c.entries.ensures c.count_ahead-at.ensures in
    let none = not_refused (refusal order e ps n) c.admits.result c.in_ok-admits.was c.admits.ensures in
    let room = (granted order e ps n none).1 in
    (ahead_within order e ps n c.count_ahead-at.result room found, room)

pub returns : goal.returns
returns g c =
    let order = g.T.Entry.compares in
    let e = c.args.e in
    let ps = c.args.self.now.places.now in
    let n = c.args.self.now.count in
    let at = c.count_ahead-at.result in
    let qs = c.store_at.new.places in
    let found = ahead_of order e ps n c.count_ahead-at.result c.entries.result.now c.entries.ensures c.count_ahead-at.ensures in
    let none = not_refused (refusal order e ps n) c.admits.result c.in_ok-admits.was c.admits.ensures in
    let stored = c.store_at.ensures in
    record {
      answer = answer_is order e ps n none at qs found stored;
      count = count_is order e ps n none at qs found stored;
      places = places_are order e ps n none at qs found stored;
      rising_stays_rising = rising_after order e ps n none at qs found stored g.T.Entry.total;
      keeps_every_entry = gains_after order e ps n none at qs found stored;
      same_places = refl {a = c.args.self.now.places.ghost_name};
    }

use Rattle.room.proofs.room.Room.close.Goals as goal

pub returns-clause-meets : goal.returns-clause-meets
returns-clause-meets g c = c.close.ensures (g.E.Engine.kind c.args.self.now.engine)

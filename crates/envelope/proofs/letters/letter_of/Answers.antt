use Rattle.std.proofs.Common.{rules}
use Rattle.envelope.proofs.LetterLaws.{written}
use Rattle.envelope.proofs.letters.letter_of.Goals as goal

pub returns : goal.returns
returns c =
    written c.args.amount c.args.note.now c.copy_from_slice.new.self c.copy_from_slice-2.new.self (search rules) c.copy_from_slice-2.ensures.after

use Rattle.std.proofs.Common.{◌<◌, length, get_or, take, sym, ap, ◌∙◌, arith}
use Rattle.std.specs.List.{flat_map}
use Rattle.std.proofs.lemmas.List.{length-append}
use Rattle.room.specs.Page.{row_of, rows, line}
use Rattle.room.specs.Places.{place_with_at}
use Rattle.room.proofs.CodePages.{written_then, lines_more, line_fits, none_listed}
use Rattle.room.proofs.printing.put_lines.Goals as goal

pub put_line-at-requires : goal.put_line-at-requires
put_line-at-requires c =
    line_fits c.args.lot c.args.sheet.now c.loop-i.i c.args.start c.loop-i.at (length c.loop-i.page) none_listed (omega arith) c.loop-i.invariant.0 (omega arith)

pub loop-i-preserved : goal.loop-i-preserved
loop-i-preserved c =
    let h : c.loop-i.i < length c.args.sheet.now = omega arith in
    let ps = flat_map line (rows c.args.lot (take c.loop-i.i c.args.sheet.now)) in
    let x = line (row_of c.args.lot (get_or c.args.sheet.now c.loop-i.i none_listed)) in
    let m = lines_more c.args.lot c.args.sheet.now c.loop-i.i none_listed h in
    let n = length-append ps x in
    let k = ap length m in (
      omega arith,
      written_then c.args.page.now c.loop-i.page _ c.args.start c.loop-i.at ps x (omega arith) c.loop-i.invariant.1 c.loop-i.invariant.0 c.put_line-at.ensures.page
          ∙ ap (place_with_at c.args.page.now c.args.start) (sym m),
    )

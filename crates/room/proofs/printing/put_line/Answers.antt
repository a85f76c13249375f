use Rattle.std.proofs.Common.{◌≡◌, ◌+◌, ◌≤◌, [], ◌∷◌, ◌++◌, length, decimal, ap, ◌∙◌, arith}
use Rattle.std.proofs.lemmas.List.{length-append}
use Rattle.room.specs.Places.{place_with_at}
use Rattle.room.proofs.CodePages.{written_then, line_parts}
use Rattle.room.proofs.printing.put_line.Goals as goal

pub returns-clause-page : goal.returns-clause-page
returns-clause-page c =
    let h : c.args.at ≤ length c.args.page.now = omega arith in
    let d0 = c.args.page.now in
    let s1 = decimal c.args.row.lot in
    let s2 = s1 ++ 44 ∷ [] in
    let s3 = s2 ++ decimal c.args.row.bidder in
    let s4 = s3 ++ 44 ∷ [] in
    let s5 = s4 ++ decimal c.args.row.amount in
    let l2 : length s2 ≡ length s1 + 1 = length-append s1 (44 ∷ []) in
    let l3 : length s3 ≡ length s2 + length (decimal c.args.row.bidder) = length-append s2 (decimal c.args.row.bidder) in
    let l4 : length s4 ≡ length s3 + 1 = length-append s3 (44 ∷ []) in
    let l5 : length s5 ≡ length s4 + length (decimal c.args.row.amount) = length-append s4 (decimal c.args.row.amount) in
    let p2 = written_then d0 _ _ c.args.at c.put_number-a.result s1 (44 ∷ []) h c.put_number-a.ensures.page c.put_number-a.ensures.end c.put-b.ensures.page in
    let p3 = written_then d0 _ _ c.args.at c.put-b.result s2 (decimal c.args.row.bidder) h p2 (omega arith) c.put_number-c.ensures.page in
    let p4 = written_then d0 _ _ c.args.at c.put_number-c.result s3 (44 ∷ []) h p3 (omega arith) c.put-d.ensures.page in
    let p5 = written_then d0 _ _ c.args.at c.put-d.result s4 (decimal c.args.row.amount) h p4 (omega arith) c.put_number-e.ensures.page in
    let p6 = written_then d0 _ _ c.args.at c.put_number-e.result s5 (10 ∷ []) h p5 (omega arith) c.put.ensures.page in
    p6 ∙ ap (place_with_at d0 c.args.at) (line_parts c.args.row)

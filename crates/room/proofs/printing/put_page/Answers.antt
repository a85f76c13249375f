use Rattle.room.proofs.CodePages.{page_written}
use Rattle.room.proofs.printing.put_page.Goals as goal

pub returns-clause-page : goal.returns-clause-page
returns-clause-page c = page_written c.args.page.now _ _ _ c.args.lot c.args.sheet.now c.put-at.ensures.page c.put-at.ensures.end c.put_lines.ensures.page

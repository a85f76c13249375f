use Rattle.file.proofs.Pages.{laws_of_pages}
use Rattle.file.proofs.theorems.page_laws_stand.Goals as goal

pub returns : goal.returns
returns c = laws_of_pages

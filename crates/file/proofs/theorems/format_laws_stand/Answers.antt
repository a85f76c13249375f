use Rattle.file.proofs.FormatLaws.{is_of_format, is_accepted, contents_of, written_alike}
use Rattle.file.proofs.Leaves.{leaves, too_long}
use Rattle.file.proofs.theorems.format_laws_stand.Goals as goal

pub returns : goal.returns
returns c = record {
  accepted_files_are_those_of_the_format = λ file. (is_of_format file, is_accepted file);
  what_is_written_is_read = λ p c h e. contents_of p h c e;
  different_particulars_have_different_files = written_alike;
  long_files_are_refused_as_too_long = too_long;
  other_files_are_refused_at_the_line_that_leaves_the_format = leaves;
}

-- How a walk over what a file says ends.
use Rattle.std.specs.Prelude.{Ok, Err, Result}
use Rattle.file.specs.Form.{Items, end, broken, item}
use Rattle.file.specs.declared.faults.FileFault.{FileFault}

-- At the end of the file, or at the first line that is refused.
abbrev pub end_of : Items → Result (Unit {0}) FileFault
end_of end = Ok tt
end_of (broken f) = Err f
end_of (item i is) = end_of is

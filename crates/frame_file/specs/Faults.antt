-- Faults of a frame file by their published numbers.
use Rattle.std.specs.Prelude.{ℕ, ◌+◌, cond, ◌||◌, ◌==◌}
use Rattle.design.specs.Faults.{Refusal, number_of, numbered}
use Rattle.design.specs.declared.fault.Fault.{Fault}
use Rattle.frame_file.specs.declared.fault.FieldReason.{FieldReason}
use Rattle.frame_file.specs.declared.fault.FieldReason.TheVariants.{Shape, NotANumber, OutOfRange, UnitCount, FileTooLong}
use Rattle.frame_file.specs.declared.fault.FieldFault.{FieldFault}
use Rattle.frame_file.specs.declared.fault.Cause.{Cause}
use Rattle.frame_file.specs.declared.fault.Cause.TheVariants.{Field, Survey}
use Rattle.frame_file.specs.declared.fault.FileFault.{FileFault}
use Rattle.frame_file.specs.Limits.{first_unit_line}

-- the published number of what is wrong in the file itself; and of any cause of a refusal
abbrev pub number_of_field : FieldReason → ℕ
number_of_field Shape = 29
number_of_field NotANumber = 30
number_of_field OutOfRange = 31
number_of_field UnitCount = 32
number_of_field FileTooLong = 33

abbrev pub number_of_cause : Cause → ℕ
number_of_cause (Field reason) = number_of_field reason
number_of_cause (Survey fault) = number_of fault.reason

-- how many layers have passed it upward
abbrev pub depth_of : Cause → ℕ
depth_of (Field reason) = 0
depth_of (Survey fault) = fault.depth

-- a refusal of a frame file as it is published: its number, line and column, and how many layers have passed it upward
pub record FileRefusal : Type 0 where
  pub number : ℕ
  pub line : ℕ
  pub column : ℕ
  pub depth : ℕ

-- a fault of a file as it is published
abbrev pub numbered_file : FileFault → FileRefusal
numbered_file e = record { number = number_of_cause e.cause; line = e.line; column = e.column; depth = depth_of e.cause }

-- ---- faults of the file itself
-- wrong at a line and a column
abbrev pub wrong : ℕ → ℕ → ℕ → FileRefusal
wrong number i c = record { number = number; line = i; column = c; depth = 0 }

-- a field's fault as it is published
abbrev pub numbered_field : FieldFault → FileRefusal
numbered_field e = wrong (number_of_field e.reason) e.line e.column

-- such a fault as one of the file: nothing is lost
abbrev pub of_field : FieldFault → FileFault
of_field e = record { cause = Field e.reason; line = e.line; column = e.column }

-- ---- faults of the design and of the survey
-- row r stands in line r + 3, and where no row is named that is line 3, the first of a unit; too few words (21) and too large a scale (22) concern the whole file
abbrev pub line_concerned : Refusal → ℕ
line_concerned f = cond (f.number == 21 || f.number == 22) 0 (f.row + first_unit_line)

-- such a fault as one of the file, whole
abbrev pub of_survey : Fault → FileFault
of_survey e = record { cause = Survey e; line = line_concerned (numbered e); column = 0 }

-- its published form, by that of the survey's refusal
abbrev pub of_refusal : Refusal → FileRefusal
of_refusal f = record { number = f.number; line = line_concerned f; column = 0; depth = f.depth }

-- What the code has read of a program, as the reader on lists has it.
use Rattle.sierra_text.specs.declared.parts.Parts.{Parts}
use Rattle.sierra_text.specs.ProgramReading.{Progress}

abbrev pub progress_of : Parts → Progress
progress_of p = record {
  part = p.part;
  program = record { types = p.types.items; libfuncs = p.libfuncs.items; statements = p.statements.items; functions = p.functions.items };
}

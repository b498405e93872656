-- The groups of families as the code goes through them, one after another.
use Rattle.std.specs.Prelude.{Option, Some, None}
use Rattle.libfunc_registry.specs.Fam.{Fam, control, gas, felts, integers, data_, arrays, dictionaries}
use Rattle.libfunc_registry.specs.Control.{ControlFam}
use Rattle.libfunc_registry.specs.Gas.{GasFam}
use Rattle.libfunc_registry.specs.Felts.{FeltsFam}
use Rattle.libfunc_registry.specs.Integers.{IntegersFam}
use Rattle.libfunc_registry.specs.Data.{DataFam}
use Rattle.libfunc_registry.specs.Arrays.{ArraysFam}
use Rattle.libfunc_registry.specs.Dictionaries.{DictionariesFam}

-- what is said of a family of this group, and none of any other
abbrev pub if_control : {A : Type 0} → (ControlFam → A) → Fam → Option A
if_control say (control fam) = Some (say fam)
if_control say _ = None

abbrev pub if_gas : {A : Type 0} → (GasFam → A) → Fam → Option A
if_gas say (gas fam) = Some (say fam)
if_gas say _ = None

abbrev pub if_felts : {A : Type 0} → (FeltsFam → A) → Fam → Option A
if_felts say (felts fam) = Some (say fam)
if_felts say _ = None

abbrev pub if_integers : {A : Type 0} → (IntegersFam → A) → Fam → Option A
if_integers say (integers fam) = Some (say fam)
if_integers say _ = None

abbrev pub if_data : {A : Type 0} → (DataFam → A) → Fam → Option A
if_data say (data_ fam) = Some (say fam)
if_data say _ = None

abbrev pub if_arrays : {A : Type 0} → (ArraysFam → A) → Fam → Option A
if_arrays say (arrays fam) = Some (say fam)
if_arrays say _ = None

abbrev pub if_dictionaries : {A : Type 0} → (DictionariesFam → A) → Fam → Option A
if_dictionaries say (dictionaries fam) = Some (say fam)
if_dictionaries say _ = None

-- Felts and constants: plans.
use Rattle.libfunc_registry.specs.Felts.{FeltsFam, const, felt64_add, felt64_sub, felt64_mul, is_zero, unwrap_non_zero}
use Rattle.cell_terms.specs.declared.term.Slot.TheVariants as slots
use Rattle.frag_plan.specs.Plan.{Plan, test, exit}

-- The result's expression is all that there is of a constant, a sum, a difference and a product. `is_zero` tests the word of its
-- argument: branch 0 is that it is 0.
abbrev pub felts_plan : FeltsFam → Plan
felts_plan (const num n) = exit 0
felts_plan felt64_add = exit 0
felts_plan felt64_sub = exit 0
felts_plan felt64_mul = exit 0
felts_plan (is_zero num) = test (slots.Arg 0) (exit 0) (exit 1)
felts_plan (unwrap_non_zero num) = exit 0

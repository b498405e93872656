-- What a program means on an input: the outcome of main. A run needs the gas of main's entry to begin, and main's gas builtin
-- is the gas beyond that.
use Rattle.std.specs.Prelude.{◌≡◌, ℕ, ◌-◌, ◌≤◌, List}
use Rattle.libfunc_registry.specs.Fam.{params_of, results_of}
use Rattle.gas_solver.specs.Accepting.{AcceptedView}
use Rattle.value_trees.specs.Val.{Plain}
use Rattle.typed_values.specs.Inputs.{InputView, FitsMain}
use Rattle.typed_values.specs.Outcome.{OutcomeView, beginning, others_of, outcome_of}
use Rattle.sierra_meaning.specs.Main.{MainEnds}

module _ (a : AcceptedView) (i : InputView) where
  -- what main's gas builtin begins with
  abbrev pub counter : ℕ
  counter = i.gas - a.plan.entry

  -- the input fits the parameters of main that are no builtins
  abbrev pub Fits : Type 0
  Fits = FitsMain (others_of (params_of a.types a.main)) i

  -- after n statements main ends with these results, which give the outcome
  pub record Means (n : ℕ) (outcome : OutcomeView) : Type 0 where
    pub enough : a.plan.entry ≤ i.gas
    pub results : List Plain
    pub ends : MainEnds a n (beginning counter (params_of a.types a.main) i.args) results
    pub shows : outcome ≡ outcome_of i.gas counter (results_of a.types a.main) results

  -- the meaning with at most so many statements
  abbrev pub MeansWithin : ℕ → OutcomeView → Type 0
  MeansWithin most outcome = (n : ℕ) × (n ≤ most) × Means n outcome

  -- the outcome that the program means on the input: some number of statements is enough
  abbrev pub IsMeaning : OutcomeView → Type 0
  IsMeaning outcome = (n : ℕ) × Means n outcome

-- Reading the text of a program, form by form, each by its next byte.
use Rattle.std.specs.Prelude.{◌≡◌, ◌<◌, ℕ, List, [], ◌∷◌, ◌++◌, length, Bool, true, false, cond, Option, None, Some, Ok, codes}
use Rattle.std.specs.Str.{bytes_eq}
use Rattle.text_reading.specs.Tokens.{is_digit}
use Rattle.text_reading.specs.Reading.{Answer.answers, done, ◌>>=◌, begins, branch}
use Rattle.text_reading.specs.TokenReading.{blanks_at, mark_at, word_at, number_at, token}
use Rattle.text_reading.specs.Repeating.{begins_with, choice, repeat_at}
use Rattle.sierra_types.specs.declared.program.TypeDecl.{TypeDecl}
use Rattle.sierra_types.specs.declared.program.LibfuncDecl.{LibfuncDecl}
use Rattle.sierra_types.specs.declared.program.Arg.{Arg}
use Rattle.sierra_types.specs.declared.program.Arg.TheVariants as args
use Rattle.sierra_types.specs.declared.program.Info.{Info}
use Rattle.sierra_types.specs.declared.program.Statement.{Statement}
use Rattle.sierra_types.specs.declared.program.Statement.TheVariants as statements
use Rattle.sierra_types.specs.declared.program.Branch.{Branch}
use Rattle.sierra_types.specs.declared.program.Target.{Target}
use Rattle.sierra_types.specs.declared.program.Target.TheVariants as targets
use Rattle.sierra_types.specs.declared.program.Function.{Function}
use Rattle.sierra_text.specs.declared.part.Part.TheVariants as parts
use Rattle.sierra_text.specs.Text.{Limits, numbered}
use Rattle.sierra_text.specs.LabelReading.{Sierra, too_wide, label_at, any_word_at}

-- ---- lists

module _ {A : Type 0} (separator : Sierra (Unit {0})) (close : ℕ) (item : Sierra A) where
  -- the mark that ends a list
  abbrev pub close_at : List A → Sierra (List A)
  close_at items = mark_at (close ∷ []) >>= λ _. done items

  -- what separates items, and one more
  abbrev pub one_more_at : List A → Sierra (List A)
  one_more_at items = separator >>= λ _. item >>= λ x. done (items ++ x ∷ [])

  -- the rest of a list, behind the items so far
  unfoldable pub behind_items_at : List A → Sierra (List A)
  behind_items_at = repeat_at (begins close) close_at one_more_at

  unfoldable pub one_or_more_at : Sierra (List A)
  one_or_more_at = item >>= λ x. behind_items_at (x ∷ [])

  unfoldable pub any_number_at : Sierra (List A)
  any_number_at = branch close (close_at []) one_or_more_at

unfoldable pub comma_at : Sierra (Unit {0})
comma_at = mark_at (codes ",")

-- a comma, and one item more
abbrev pub next_item_at : {A : Type 0} → Sierra A → Sierra A
next_item_at item = comma_at >>= λ _. item

-- behind a comma each item takes a byte at least
pub record TakeBytes {A : Type 0} (item : Sierra A) : Type 0 where
  pub shorter : (close : ℕ) (items : List A) (text rest : List ℕ) (more : List A) → one_more_at comma_at close item items text ≡ answers (Ok more) rest → length rest < length text

unfoldable pub in_parentheses_at : {A : Type 0} → Sierra A → Sierra (List A)
in_parentheses_at item = mark_at (codes "(") >>= λ _. any_number_at comma_at 41 item

unfoldable pub bool_at : Sierra Bool
bool_at = branch 116 (word_at (codes "true") >>= λ _. done true) (word_at (codes "false") >>= λ _. done false)

module _ (limits : Limits) where
  -- ---- ids

  unfoldable pub numbered_at : Sierra (List ℕ)
  numbered_at = mark_at (codes "[") >>= λ _. number_at limits.number true too_wide >>= λ n. mark_at (codes "]") >>= λ _. done (numbered n)

  -- no reserved word is an id, as behind the statements
  unfoldable pub id_at : Sierra (List ℕ)
  id_at = branch 91 numbered_at (token (label_at parts.Functions))

  -- ---- arguments

  unfoldable pub negative_at : Sierra Arg
  negative_at = mark_at (codes "-") >>= λ _. number_at limits.number false too_wide >>= λ n. done (args.Number true n)

  unfoldable pub size_at : Sierra Arg
  size_at = number_at limits.number true too_wide >>= λ n. done (args.Number false n)

  -- a label that is an id
  abbrev pub plain_at : List ℕ → Sierra Arg
  plain_at label = blanks_at >>= λ _. done (args.OfType label)

  -- behind `ut` or `user`: `@` and an id, or the blanks
  abbrev pub marked_at : (List ℕ → Arg) → List ℕ → Sierra Arg
  marked_at make label = branch 64 (mark_at (codes "@") >>= λ _. id_at >>= λ name. done (make name)) (plain_at label)

  unfoldable pub behind_label_at : List ℕ → Sierra Arg
  behind_label_at label =
      cond (bytes_eq label (codes "ut")) (marked_at args.User label) (cond (bytes_eq label (codes "user")) (marked_at args.Callee label) (plain_at label))

  unfoldable pub labelled_at : Sierra Arg
  labelled_at = label_at parts.Functions >>= λ label. behind_label_at label

  unfoldable pub arg_at : Sierra Arg
  arg_at =
      branch 45 negative_at
      (branch 91 (numbered_at >>= λ name. done (args.OfType name))
      (choice (begins_with is_digit) size_at labelled_at))

  unfoldable pub args_at : Sierra (List Arg)
  args_at = branch 60 (mark_at (codes "<") >>= λ _. one_or_more_at comma_at 62 arg_at) (done [])

-- ---- infos

unfoldable pub ability_at : List ℕ → Sierra Bool
ability_at word = word_at word >>= λ _. mark_at (codes ":") >>= λ _. bool_at

unfoldable pub info_at : Sierra Info
info_at =
    mark_at (codes "[") >>= λ _. ability_at (codes "storable") >>= λ storable. comma_at >>= λ _. ability_at (codes "drop") >>= λ dropped. comma_at >>= λ _.
    ability_at (codes "dup") >>= λ dup. comma_at >>= λ _. ability_at (codes "zero_sized") >>= λ zero_sized. mark_at (codes "]") >>= λ _.
    done (record { storable = storable; drop = dropped; dup = dup; zero_sized = zero_sized })

unfoldable pub info_or_nothing_at : Sierra (Option Info)
info_or_nothing_at = branch 91 (info_at >>= λ info. done (Some info)) (done None)

module _ (limits : Limits) where
  -- ---- declarations, each from behind its reserved word or its id

  unfoldable pub type_at : Sierra TypeDecl
  type_at =
      id_at limits >>= λ id. mark_at (codes "=") >>= λ _. any_word_at >>= λ generic. args_at limits >>= λ args. info_or_nothing_at >>= λ info.
      mark_at (codes ";") >>= λ _. done (record { id = id; generic = generic; args = args; info = info })

  unfoldable pub libfunc_at : Sierra LibfuncDecl
  libfunc_at =
      id_at limits >>= λ id. mark_at (codes "=") >>= λ _. any_word_at >>= λ generic. args_at limits >>= λ args.
      mark_at (codes ";") >>= λ _. done (record { id = id; generic = generic; args = args })

  unfoldable pub position_at : Sierra ℕ
  position_at = number_at limits.position true too_wide

  unfoldable pub var_at : Sierra ℕ
  var_at = mark_at (codes "[") >>= λ _. position_at >>= λ n. mark_at (codes "]") >>= λ _. done n

  unfoldable pub vars_at : Sierra (List ℕ)
  vars_at = in_parentheses_at var_at

  unfoldable pub target_at : Sierra Target
  target_at = branch 102 (word_at (codes "fallthrough") >>= λ _. done targets.Fallthrough) (position_at >>= λ n. done (targets.To n))

  unfoldable pub branch_at : Sierra Branch
  branch_at = target_at >>= λ target. vars_at >>= λ results. done (record { target = target; results = results })

  unfoldable pub branches_at : Sierra (List Branch)
  branches_at =
      branch 45
      (mark_at (codes "->") >>= λ _. vars_at >>= λ results. done (record { target = targets.Fallthrough; results = results } ∷ []))
      (mark_at (codes "{") >>= λ _. one_or_more_at (done tt) 125 branch_at)

  unfoldable pub invoke_at : List ℕ → Sierra Statement
  invoke_at libfunc = vars_at >>= λ vars. branches_at >>= λ branches. mark_at (codes ";") >>= λ _. done (statements.Invoke libfunc vars branches)

  unfoldable pub return_at : Sierra Statement
  return_at = vars_at >>= λ vars. mark_at (codes ";") >>= λ _. done (statements.Return vars)

  unfoldable pub param_at : Sierra (ℕ × List ℕ)
  param_at = var_at >>= λ var. mark_at (codes ":") >>= λ _. id_at limits >>= λ id. done (var, id)

  unfoldable pub function_at : List ℕ → Sierra Function
  function_at id =
      mark_at (codes "@") >>= λ _. position_at >>= λ entry. in_parentheses_at param_at >>= λ params. mark_at (codes "->") >>= λ _.
      in_parentheses_at (id_at limits) >>= λ results. mark_at (codes ";") >>= λ _. done (record { id = id; entry = entry; params = params; results = results })

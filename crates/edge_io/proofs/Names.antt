-- The file of a name, as a scan from the front finds it.
use Rattle.std.proofs.Common.{Bor, option_copied, ℕ, ◌≡◌, true, false, cond, List, [], ◌∷◌, map, Option, Some, refl, sym, ap, ◌∙◌}
use Rattle.std.specs.List.{find}
use Rattle.std.specs.Option.{option_map}
use Rattle.std.specs.Ordering.{nat_cmp, eq_by_cmp}
use Rattle.std.specs.Cmp.{eq_by_cmp_equiv}
use Rattle.std.specs.Cmp.Lexicographic.{slice_cmp, nat_list_cmp_total, texts_ties}
use Rattle.std.specs.Str.{bytes_eq}
use Rattle.std.specs.FinMap as finmap
use Rattle.edge_io.specs.FileTable.{FileTable, file_map}

same_name : (name key : List ℕ) → eq_by_cmp (slice_cmp nat_cmp) name key ≡ bytes_eq key name
same_name name key = (eq_by_cmp_equiv nat_list_cmp_total).symm name key ∙ sym (texts_ties key name)

first_named : {A : Type 0} (key value : A → List ℕ) (name : List ℕ) (files : List A) → option_map value (find (λ f. bytes_eq (key f) name) files) ≡ finmap.find (slice_cmp nat_cmp) name (map (λ f. (key f, value f)) files)
first_named key value name [] = refl
first_named key value name (f ∷ files) =
    let rest : option_map value (find (λ g. bytes_eq (key g) name) files) ≡ finmap.find (slice_cmp nat_cmp) name (map (λ g. (key g, value g)) files) = first_named key value name files in
    rw (same_name name (key f))
    (elim (bytes_eq (key f) name) as (λ b. option_map value (cond b (Some f) (find (λ g. bytes_eq (key g) name) files)) ≡ cond b (Some (value f)) (finmap.find (slice_cmp nat_cmp) name (map (λ g. (key g, value g)) files)))
    [ true ↦ refl | false ↦ rest ])

-- what a scan for the name found is what the map has under it
pub got : {A : Type 0} (t : FileTable) (key value : A → List ℕ) (name : List ℕ) (files : List A) (found : Option (Bor (List ℕ))) → map (λ f. (key f, value f)) files ≡ t.files → option_copied found ≡ option_map value (find (λ f. bytes_eq (key f) name) files) → option_copied found ≡ finmap.get (file_map t.files) name
got t key value name files found e h =
    h ∙ (first_named key value name files
    ∙ (sym (finmap.get-from_entries nat_list_cmp_total (map (λ f. (key f, value f)) files) name)
    ∙ ap (λ fs. finmap.get (file_map fs) name) e))

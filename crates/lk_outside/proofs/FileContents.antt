-- The content of a file of a list.
use Rattle.std.proofs.Common.{◌≡◌, ℕ, List, [], ◌∷◌, ◌∙◌, refl, map, find, cond, true, false, Option, Some}
use Rattle.std.specs.Option.{option_map}
use Rattle.std.specs.Str.{bytes_eq}
use Rattle.std.specs.Cmp.Lexicographic.{slice_cmp}
use Rattle.std.specs.Ordering.{nat_cmp}
use Rattle.std.specs.FinMap.{get, get-from_entries}
use Rattle.std.specs.FinMap as map
use Rattle.std.proofs.lemmas.Cmp.{nat_list_cmp_total}
use Rattle.std.proofs.lemmas.Map.Text.{is_eq-slice_cmp}
use Rattle.lk_outside.specs.MemFiles.{contents_of}
use Rattle.lk_outside.specs.declared.entry.FileEntry.{FileEntry}

-- the content of the first file of that name
abbrev first_content : List FileEntry → List ℕ → Option (List ℕ)
first_content files name = option_map (λ file. file.content) (find (λ file. bytes_eq name file.name) files)

find-entries : (files : List FileEntry) (name : List ℕ)
    → map.find (slice_cmp nat_cmp) name (map (λ file. (file.name, file.content)) files) ≡ first_content files name
find-entries [] name = refl
find-entries (file ∷ files) name =
    rw (is_eq-slice_cmp name file.name, find-entries files name)
    (elim (bytes_eq name file.name)
    as (λ b. cond b (Some file.content) (first_content files name)
    ≡ option_map (λ file. file.content) (cond b (Some file) (find (λ file. bytes_eq name file.name) files)))
    [ true ↦ refl | false ↦ refl ])

-- what a list of files contains under a name is the content of its first file of that name
pub get_contents_of : (files : List FileEntry) (name : List ℕ)
    → get (contents_of files) name ≡ option_map (λ file. file.content) (find (λ file. bytes_eq name file.name) files)
get_contents_of files name = get-from_entries nat_list_cmp_total _ name ∙ find-entries files name

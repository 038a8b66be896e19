-- Room for one more than the tokens suffices.
use Rattle.std.proofs.Common.{ℕ, zero, suc, List, [], ◌∷◌, ◌++◌, arith}
use Rattle.std.specs.Prelude.{codes}
use Rattle.lk_ast.specs.declared.signature.SigField.{SigField}
use Rattle.lk_ast.specs.declared.signature.SigType.{SigType}
use Rattle.lk_ast.specs.declared.signature.SigType.TheVariants as sig
use Rattle.lk_read.specs.Reader.{Reader, bind}
use Rattle.lk_read.proofs.Laws.{Reads}
use Rattle.lk_read.proofs.Room.{Lasts, Eats, shortens, none-lasts, bind-lasts, next-lasts, step-lasts, give-lasts, finish-lasts, when-lasts, many-lasts, bind-shortens, give-shortens, eat-eats}
use Rattle.lk_rows.specs.Reading.{comma, is_label, field_with, fields_turn, fields_with, types_turn, types_with, unit_with, record_with, function_with, round_with, list_with, no_tags, some_tags_with, tags_with, named, base, type_with, type_at, sig_at}
use Rattle.lk_rows.specs.Types.{field, IsType}
use Rattle.lk_rows.specs.declared.types.Label.{Label}
use Rattle.lk_rows.specs.declared.types.Label.TheVariants.{Name, Tag}
use Rattle.lk_rows.proofs.Sound.{field-reads, fields-reads, types-reads, type_at-reads}

module _ (type : Reader SigType) (T : Reads type IsType) (n : ℕ) (L : Lasts n type) where
  -- a type, and then what is made of it
  then_lasts : {Y : Type 0} (f : SigType → Reader Y) → ((ty : SigType) → Lasts n (f ty)) → Lasts n (bind type f)
  then_lasts f h = bind-lasts n type f (shortens type T) L h

  field-lasts : (label : Label) → Lasts n (field_with (is_label label) type)
  unfolding field_with
  field-lasts label = step-lasts n _ _ (λ l. step-lasts n _ _ (λ c. then_lasts _ (λ ty. give-lasts n (field l ty))))

  fields_turn-eats : (label : Label) (parts : List SigField) → Eats (fields_turn (is_label label) type parts)
  unfolding fields_turn
  fields_turn-eats label parts = eat-eats _ _ (λ s. bind-shortens _ _ (shortens _ (field-reads type T label)) (λ part. give-shortens (parts ++ part ∷ [])))

  fields_turn-lasts : (label : Label) (parts : List SigField) → Lasts n (fields_turn (is_label label) type parts)
  unfolding fields_turn
  fields_turn-lasts label parts = step-lasts n _ _ (λ s. bind-lasts n _ _ (shortens _ (field-reads type T label)) (field-lasts label) (λ part. give-lasts n (parts ++ part ∷ [])))

  fields-lasts : (label : Label) → Lasts n (fields_with (is_label label) type n)
  unfolding fields_with
  fields-lasts label = bind-lasts n _ _ (shortens _ (field-reads type T label)) (field-lasts label)
      (λ part. many-lasts n comma (fields_turn (is_label label) type) (fields_turn-eats label) (fields_turn-lasts label) n (omega arith) (part ∷ []))

  types_turn-eats : (types : List SigType) → Eats (types_turn type types)
  unfolding types_turn
  types_turn-eats types = eat-eats _ _ (λ s. bind-shortens _ _ (shortens type T) (λ ty. give-shortens (types ++ ty ∷ [])))

  types_turn-lasts : (types : List SigType) → Lasts n (types_turn type types)
  unfolding types_turn
  types_turn-lasts types = step-lasts n _ _ (λ s. then_lasts _ (λ ty. give-lasts n (types ++ ty ∷ [])))

  types-lasts : Lasts n (types_with type n)
  unfolding types_with
  types-lasts = then_lasts _ (λ ty. many-lasts n comma (types_turn type) types_turn-eats types_turn-lasts n (omega arith) (ty ∷ []))

  unit-lasts : Lasts n (unit_with type)
  unfolding unit_with
  unit-lasts = step-lasts n _ _ (λ c. when-lasts n _ _ _ (step-lasts n _ _ (λ a. then_lasts _ (λ answer. give-lasts n (sig.Fun [] answer)))) (give-lasts n (sig.Fields [])))

  record-lasts : Lasts n (record_with type n)
  unfolding record_with
  record-lasts = bind-lasts n _ _ (shortens _ (fields-reads type T Name n)) (fields-lasts Name) (λ parts. step-lasts n _ _ (λ c. give-lasts n (sig.Fields parts)))

  function-lasts : Lasts n (function_with type n)
  unfolding function_with
  function-lasts = bind-lasts n _ _ (shortens _ (types-reads type T n)) types-lasts (λ params. step-lasts n _ _ (λ c. step-lasts n _ _ (λ a. then_lasts _ (λ answer. give-lasts n (sig.Fun params answer)))))

  round-lasts : Lasts (suc n) (round_with type n)
  unfolding round_with
  round-lasts = next-lasts n _ _ (λ o. when-lasts n _ _ _ unit-lasts (when-lasts n _ _ _ record-lasts function-lasts))

  list-lasts : Lasts (suc n) (list_with type)
  unfolding list_with
  list-lasts = next-lasts n _ _ (λ o. then_lasts _ (λ item. step-lasts n _ _ (λ c. give-lasts n (sig.List item))))

  no_tags-lasts : Lasts n no_tags
  unfolding no_tags
  no_tags-lasts = step-lasts n _ _ (λ c. give-lasts n (sig.Tags []))

  some_tags-lasts : Lasts n (some_tags_with type n)
  unfolding some_tags_with
  some_tags-lasts = bind-lasts n _ _ (shortens _ (fields-reads type T Tag n)) (fields-lasts Tag) (λ parts. step-lasts n _ _ (λ c. give-lasts n (sig.Tags parts)))

  tags-lasts : Lasts (suc n) (tags_with type n)
  unfolding tags_with
  tags-lasts = next-lasts n _ _ (λ o. when-lasts n _ _ _ no_tags-lasts some_tags-lasts)

named-lasts : (n : ℕ) (name : List ℕ) (ty : SigType) → Lasts n (named name ty)
unfolding named
named-lasts n name ty = step-lasts n _ _ (λ t. give-lasts n ty)

base-lasts : (n : ℕ) → Lasts n base
unfolding base
base-lasts n = when-lasts n _ _ _ (named-lasts n (codes "Int") sig.Int) (when-lasts n _ _ _ (named-lasts n (codes "Bool") sig.Bool) (named-lasts n (codes "String") sig.Text))

pub type_at-lasts : (n : ℕ) → Lasts n (type_at n)
unfolding type_at type_with
type_at-lasts zero = none-lasts _
type_at-lasts (suc n) = let T = type_at-reads n in let L = type_at-lasts n in
    when-lasts (suc n) _ _ _ (round-lasts (type_at n) T n L) (when-lasts (suc n) _ _ _ (list-lasts (type_at n) T n L) (when-lasts (suc n) _ _ _ (tags-lasts (type_at n) T n L) (base-lasts (suc n))))

pub sig-lasts : (n : ℕ) → Lasts n (sig_at n)
unfolding sig_at
sig-lasts n = bind-lasts n (type_at n) _ (shortens (type_at n) (type_at-reads n)) (type_at-lasts n) (λ ty. finish-lasts n ty)

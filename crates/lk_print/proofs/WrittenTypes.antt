-- What is on a line when a type is written.
use Rattle.std.proofs.Common.{◌≡◌, List, [], ◌∷◌, ◌++◌, map, sym, ap, ◌∙◌}
use Rattle.std.specs.Prelude.{ℕ, codes, flat_map}
use Rattle.lk_ast.specs.declared.signature.SigField.{SigField}
use Rattle.lk_ast.specs.declared.signature.SigType.{SigType}
use Rattle.lk_ast.specs.declared.signature.SigType.TheOpen.{SigType-F}
use Rattle.lk_ast.specs.declared.signature.SigType.TheVariants as sig
use Rattle.lk_ast.specs.declared.token.TokenKind.TheVariants.{Word, Tag, Sign}
use Rattle.lk_print.specs.Printed.{Kinds, separated, in_round, named_field, tagged_field, type_of}
use Rattle.lk_print.specs.Written.{spaced}
use Rattle.lk_print.proofs.Appends.{behind_both, spaced_both}
use Rattle.lk_print.proofs.Types.{printed_is, shown_fields}

rounded : (old : List ℕ) (a : Kinds) → ((old ++ spaced (Sign (codes "("))) ++ flat_map spaced a) ++ spaced (Sign (codes ")")) ≡ old ++ flat_map spaced (in_round a)
rounded old a = search (behind_both, spaced_both)

barred : (old : List ℕ) (a : Kinds) → ((old ++ spaced (Sign (codes "[|"))) ++ flat_map spaced a) ++ spaced (Sign (codes "|]")) ≡ old ++ flat_map spaced (Sign (codes "[|") ∷ (a ++ Sign (codes "|]") ∷ []))
barred old a = search (behind_both, spaced_both)

pub fields_line : (old l1 l2 new : List ℕ) (ty : SigType) (fields items : List SigField) → ty ≡ sig.Fields fields → items ≡ fields → l1 ≡ old ++ spaced (Sign (codes "(")) → l2 ≡ l1 ++ flat_map spaced (separated (map named_field items)) → new ≡ l2 ++ spaced (Sign (codes ")")) → new ≡ old ++ flat_map spaced (type_of ty)
fields_line old l1 l2 new ty fields items is same p q r =
    r ∙ ap (λ z. z ++ spaced (Sign (codes ")"))) (q ∙ ap (λ z. z ++ flat_map spaced (separated (map named_field items))) p) ∙ rounded old (separated (map named_field items)) ∙ ap (λ z. old ++ flat_map spaced (in_round (separated (map named_field z)))) same
    ∙ ap (λ z. old ++ flat_map spaced z) (sym (printed_is ty (SigType-F.Fields fields) (sig.rolls-Fields fields ∙ sym is) ∙ ap (λ z. in_round (separated z)) (shown_fields (λ x. Word x) fields)))

pub tags_line : (old l1 l2 new : List ℕ) (ty : SigType) (tags items : List SigField) → ty ≡ sig.Tags tags → items ≡ tags → l1 ≡ old ++ spaced (Sign (codes "[|")) → l2 ≡ l1 ++ flat_map spaced (separated (map tagged_field items)) → new ≡ l2 ++ spaced (Sign (codes "|]")) → new ≡ old ++ flat_map spaced (type_of ty)
tags_line old l1 l2 new ty tags items is same p q r =
    r ∙ ap (λ z. z ++ spaced (Sign (codes "|]"))) (q ∙ ap (λ z. z ++ flat_map spaced (separated (map tagged_field items))) p) ∙ barred old (separated (map tagged_field items)) ∙ ap (λ z. old ++ flat_map spaced (Sign (codes "[|") ∷ (separated (map tagged_field z) ++ Sign (codes "|]") ∷ []))) same
    ∙ ap (λ z. old ++ flat_map spaced z) (sym (printed_is ty (SigType-F.Tags tags) (sig.rolls-Tags tags ∙ sym is) ∙ ap (λ z. Sign (codes "[|") ∷ (separated z ++ Sign (codes "|]") ∷ [])) (shown_fields (λ x. Tag x) tags)))

arrow : (old : List ℕ) (a b : Kinds) → ((((old ++ spaced (Sign (codes "("))) ++ flat_map spaced a) ++ spaced (Sign (codes ")"))) ++ spaced (Sign (codes "->"))) ++ flat_map spaced b ≡ old ++ flat_map spaced (in_round a ++ Sign (codes "->") ∷ b)
arrow old a b = search (behind_both, spaced_both)

pub function_line : (old l1 l2 l3 l4 new : List ℕ) (ty answer : SigType) (params items : List SigType) → ty ≡ sig.Fun params answer → items ≡ params → l1 ≡ old ++ spaced (Sign (codes "(")) → l2 ≡ l1 ++ flat_map spaced (separated (map type_of items))
    → l3 ≡ l2 ++ spaced (Sign (codes ")")) → l4 ≡ l3 ++ spaced (Sign (codes "->")) → new ≡ l4 ++ flat_map spaced (type_of answer) → new ≡ old ++ flat_map spaced (type_of ty)
function_line old l1 l2 l3 l4 new ty answer params items is same p q r s t =
    t ∙ ap (λ z. z ++ flat_map spaced (type_of answer)) (s ∙ ap (λ z. z ++ spaced (Sign (codes "->"))) (r ∙ ap (λ z. z ++ spaced (Sign (codes ")"))) (q ∙ ap (λ z. z ++ flat_map spaced (separated (map type_of items))) p)))
    ∙ arrow old (separated (map type_of items)) (type_of answer)
    ∙ ap (λ z. old ++ flat_map spaced (in_round (separated (map type_of z)) ++ Sign (codes "->") ∷ type_of answer)) same
    ∙ ap (λ z. old ++ flat_map spaced z) (sym (printed_is ty (SigType-F.Fun params answer) (sig.rolls-Fun params answer ∙ sym is)))

-- Parts in order: what each stands for, by what its own parts stand for.
use Rattle.std.proofs.Common.{◌≡◌, ℕ, ◌+◌, List, [], ◌∷◌, ◌++◌, map, length, Some, slice_get, refl, ◌∙◌, ap, ap₂}
use Rattle.std.specs.List.{flat_map}
use Rattle.lk_sql.specs.declared.tree.Scalar.TheVariants as scalar
use Rattle.lk_query.specs.Order.{AreOrdered, bind}
use Rattle.lk_query.specs.declared.part.Part.{Part}
use Rattle.lk_query.specs.declared.part.Part.TheVariants as part
use Rattle.lk_query.proofs.Parts.{IsLocal, each-same, filled-at, labelled-same, three-same}
use Rattle.lk_norm.specs.Normal.{always, as_base, as_list, as_row, branch, conjunction, equal_rows, negation, norm_level, norms, output, outputs, scalar_in, scalar_or, selects}

norm_local : IsLocal norm_level
norm_local f g n same (part.Lit b) l = refl
norm_local f g n same part.Bound l = refl
norm_local f g n same (part.Case c a b) l = three-same f g n same (λ c a b. λ names. as_base (λ s. scalar.Case ((c names).base s) ((a names).base s) ((b names).base s))) c a b l.0 l.1 l.2
norm_local f g n same (part.If c a b) l =
    three-same f g n same (λ c a b. λ names. as_list (λ o froms d. (a names).list o froms (conjunction d ((c names).base (o + length froms))) ++ (b names).list o froms (conjunction d (negation ((c names).base (o + length froms)))))) c a b l.0 l.1 l.2
norm_local f g n same (part.IfRow labels c a b) l =
    three-same f g n same (λ c a b. λ names. as_row (λ s. map (λ label. output label (scalar.Case ((c names).base s) (scalar_in ((a names).row s) label) (scalar_in ((b names).row s) label))) labels)) c a b l.0 l.1 l.2
norm_local f g n same (part.One o a) l = ap (λ a. λ names. as_base (λ s. scalar.Op o ((a names).base s ∷ []))) (same a l)
norm_local f g n same (part.Two o a b) l = ap₂ (λ a b. λ names. as_base (λ s. scalar.Op o ((a names).base s ∷ (b names).base s ∷ []))) (same a l.0) (same b l.1)
norm_local f g n same (part.EqRows labels a b) l = ap₂ (λ a b. λ names. as_base (λ s. equal_rows labels ((a names).row s) ((b names).row s))) (same a l.0) (same b l.1)
norm_local f g n same (part.Empty columns list) l = ap (λ list. λ names. as_base (λ s. negation (scalar.Exists (selects columns ((list names).list s [] always))))) (same list l)
norm_local f g n same (part.Record items) l = λ t names. as_row (λ s. labelled-same f g n same (λ label a. output label ((a names).base s)) items l t)
norm_local f g n same (part.Extend labels items rest) l =
    (λ t names. as_row (λ s. map (λ label. output label (scalar_or (labelled-same f g n same (λ label a. output label ((a names).base s)) items l.0 t) ((f rest names).row s) label)) labels))
    ∙ ap (λ rest. λ names. as_row (λ s. map (λ label. output label (scalar_or (outputs g items names s) ((rest names).row s) label)) labels)) (same rest l.1)
norm_local f g n same (part.Project a label) l = ap (λ a. λ names. as_base (λ s. scalar_in ((a names).row s) label)) (same a l)
norm_local f g n same (part.Items items) l = λ t names. as_list (λ o froms d. each-same f g n same (λ a. branch froms d ((a names).row (o + length froms))) items l t)
norm_local f g n same (part.Append a b) l = ap₂ (λ a b. λ names. as_list (λ o froms d. (a names).list o froms d ++ (b names).list o froms d)) (same a l.0) (same b l.1)
norm_local f g n same (part.ForList list x body) l =
    ap₂ (λ list body. λ names. as_list (λ o froms d. flat_map (λ b. (body (bind x (as_row (λ s. b.outs)) names)).list o b.froms b.cond) ((list names).list o froms d))) (same list l.0) (same body l.2)
norm_local f g n same (part.Table table labels) l = refl
norm_local f g n same (part.Where c list) l = ap₂ (λ c list. λ names. as_list (λ o froms d. (list names).list o froms (conjunction d ((c names).base (o + length froms))))) (same c l.0) (same list l.1)

-- what a part stands for, by what its own parts stand for
pub norms-at : (parts : List Part) (i : ℕ) (x : Part) → AreOrdered parts → Some x ≡ slice_get parts i → norms parts i ≡ norm_level (norms parts) i x
unfolding norms
norms-at parts i x ordered e = filled-at norm_level norm_local _ parts i x ordered e

-- What a walk makes of the sites before, by the parts that it walks through.
use Rattle.std.proofs.Common.{arith, ◌≡◌, ℕ, suc, zero, ◌+◌, ◌-◌, List, [], ◌∷◌, ◌++◌, Option, length, drop, refl, ap, ap₂, sym, ◌∙◌, append_assoc, append-nil, length-append}
use Rattle.std.specs.Prelude.{set, ◌≤◌, Result, Ok, Err, OnOk}
use Rattle.std.proofs.lemmas.List.{set_at, map-set}
use Rattle.lk_ast.specs.declared.place.Span.{Span}
use Rattle.lk_ast.specs.declared.place.Word.{Word}
use Rattle.lk_types.specs.Rows.{Label}
use Rattle.lk_typing.specs.Names.{Named}
use Rattle.lk_outline.specs.Outline.{Bound, Context, In, Kind, Site, all, all_bound, before, binding, block, call, nothing, numbered, plain, some_bound, starts, where_bound, with_names}
use Rattle.lk_outline.specs.Shown.{shown, shown_site}
use Rattle.lk_outline.specs.Walked.{begin_at, noted, noted_site, put, put_all, put_bound, seen, unsaid}
use Rattle.lk_outline.specs.declared.site.Site.{Site as TheSite}
use Rattle.lk_outline.specs.declared.walk.Round.{Round}

-- what is made where there is memory, in other words
pub on_ok_same : {X E S : Type 0} {a b : S} (r : Result X E) (made : S) → OnOk r (made ≡ a) → a ≡ b → OnOk r (made ≡ b)
on_ok_same (Ok x) made is same = is ∙ same
on_ok_same (Err why) made is same = is

-- a node, and then what stands in it
pub noted_part : (span : Span) (kind : Kind) (round : Round) (scope : Named ℕ) (part : In) (found : List Site) → put part (seen round scope) (noted span kind round found) ≡ put (plain span kind part) (seen round scope) found
unfolding put noted
noted_part span kind round scope part found =
    let one : Site = noted_site span kind round (length found) in
    let more : length (found ++ one ∷ []) ≡ 1 + length found = omega (arith, length-append found (one ∷ [])) in
    ap (λ n. (found ++ one ∷ []) ++ part (seen round scope) n) more ∙ append_assoc found (one ∷ []) (part (seen round scope) (1 + length found))

pub put_before : (first rest : In) (c : Context) (found : List Site) → put rest c (put first c found) ≡ put (before first rest) c found
unfolding put
put_before first rest c found =
    ap (λ n. (found ++ first c (length found)) ++ rest c n) (length-append found (first c (length found)))
    ∙ append_assoc found (first c (length found)) (rest c (length found + length (first c (length found))))

pub put_all_is : (parts : List In) (c : Context) (found : List Site) → put_all parts c found ≡ put (all parts) c found
unfolding put
put_all_is [] c found = sym (append-nil found)
put_all_is (part ∷ parts) c found = put_all_is parts c (put part c found) ∙ put_before part (all parts) c found

pub put_bound_is : (parts : List Bound) (binder : ℕ) (c : Context) (found : List Site) → put_bound parts binder c found ≡ put (all_bound parts binder) c found
unfolding put
put_bound_is [] binder c found = sym (append-nil found)
put_bound_is (part ∷ parts) binder c found = put_bound_is parts binder c (put (part binder) c found) ∙ put_before (part binder) (all_bound parts binder) c found

pub begin_at_is : (parts : List In) (c : Context) (found : List Site) → begin_at parts c found ≡ starts parts c (length found)
unfolding put
begin_at_is [] c found = refl
begin_at_is (part ∷ parts) c found = ap (λ rest. length found ∷ rest) (begin_at_is parts c (put part c found) ∙ ap (starts parts c) (length-append found (part c (length found))))

-- ---- nodes that are noted again once it is known what stands in them

pub noted_again : (span : Span) (kind last : Kind) (round : Round) (c : Context) (part : In) (found : List Site)
    → set (put part c (noted span kind round found)) (length found) (noted_site span last round (length found)) ≡ found ++ noted_site span last round (length found) ∷ part c (1 + length found)
unfolding put noted
noted_again span kind last round c part found =
    let one : Site = noted_site span kind round (length found) in
    let other : Site = noted_site span last round (length found) in
    let more : length (found ++ one ∷ []) ≡ 1 + length found = omega (arith, length-append found (one ∷ [])) in
    ap (λ n. set ((found ++ one ∷ []) ++ part c n) (length found) other) more
    ∙ ap (λ sites. set sites (length found) other) (append_assoc found (one ∷ []) (part c (1 + length found)))
    ∙ set_at found one (part c (1 + length found)) other (length found) refl

pub noted_length : (span : Span) (kind : Kind) (round : Round) (found : List Site) → length (noted span kind round found) ≡ 1 + length found
unfolding noted
noted_length span kind round found =
    let one : Site = noted_site span kind round (length found) in
    omega (arith, length-append found (one ∷ []))

-- how many nodes stand in a part
pub put_length : (part : In) (c : Context) (found : List Site) → length (put part c found) - length found ≡ length (part c (length found))
unfolding put
put_length part c found = omega (arith, length-append found (part c (length found)))

pub call_put : (span : Span) (name : Label) (round : Round) (scope : Named ℕ) (parts : List In) (found inner last : List Site) (numbers : List ℕ) (number : ℕ)
    → number ≡ length found
    → inner ≡ put_all parts (seen round scope) (noted span unsaid round found)
    → numbers ≡ begin_at parts (seen round scope) (noted span unsaid round found)
    → last ≡ set inner number (noted_site span (Kind.Call name numbers) round number)
    → last ≡ put (call span name parts) (seen round scope) found
unfolding put
call_put span name round scope parts found inner last numbers number at walked are is =
    let begun : numbers ≡ starts parts (seen round scope) (1 + length found) = are ∙ begin_at_is parts (seen round scope) (noted span unsaid round found) ∙ ap (starts parts (seen round scope)) (noted_length span unsaid round found) in
    is
    ∙ ap (λ n. set inner n (noted_site span (Kind.Call name numbers) round n)) at
    ∙ ap₂ (λ sites ns. set sites (length found) (noted_site span (Kind.Call name ns) round (length found))) (walked ∙ put_all_is parts (seen round scope) (noted span unsaid round found)) begun
    ∙ noted_again span unsaid (Kind.Call name (starts parts (seen round scope) (1 + length found))) round (seen round scope) (all parts) found

-- a query or a change: what stands in it has another context
pub block_put : (span : Span) (kind : ℕ → Kind) (round : Round) (scope : Named ℕ) (around : Context) (part outer : In) (found inner last : List Site) (number nodes : ℕ)
    → outer (seen round scope) (1 + length found) ≡ part around (1 + length found)
    → number ≡ length found
    → inner ≡ put part around (noted span unsaid round found)
    → nodes ≡ length inner - (1 + length found)
    → last ≡ set inner number (noted_site span (kind nodes) round number)
    → last ≡ put (block span kind outer) (seen round scope) found
unfolding put
block_put span kind round scope around part outer found inner last number nodes same at walked count is =
    let more : length (noted span unsaid round found) ≡ 1 + length found = noted_length span unsaid round found in
    let many : nodes ≡ length (part around (1 + length found)) = count ∙ ap₂ (λ sites n. length sites - n) walked (sym more) ∙ put_length part around (noted span unsaid round found) ∙ ap (λ n. length (part around n)) more in
    is
    ∙ ap (λ n. set inner n (noted_site span (kind nodes) round n)) at
    ∙ ap₂ (λ sites n. set sites (length found) (noted_site span (kind n) round (length found))) walked many
    ∙ noted_again span unsaid (kind (length (part around (1 + length found)))) round around part found
    ∙ ap (λ sites. found ++ noted_site span (kind (length sites)) round (length found) ∷ sites) (sym same)

-- a part, and then another one in which the node binds a name
pub binding_put : (span : Span) (x : Word) (e body : In) (round : Round) (scope : Named ℕ) (found : List Site)
    → put body (seen round ((x.text, 1 + length found) ∷ scope)) (put e (seen round scope) (noted span unsaid round found)) ≡ put (numbered span (binding x e body)) (seen round scope) found
unfolding put
binding_put span x e body round scope found =
    put_before e (where_bound (with_names (x ∷ []) (1 + length found)) body) (seen round scope) (noted span unsaid round found)
    ∙ noted_part span unsaid round scope (before e (where_bound (with_names (x ∷ []) (1 + length found)) body)) found

-- ---- names

pub names_last : (front : List Word) (x : Word) (binder : ℕ) (scope : Named ℕ) → with_names (front ++ x ∷ []) binder scope ≡ with_names front binder ((x.text, binder) ∷ scope)
names_last [] x binder scope = refl
names_last (y ∷ ys) x binder scope = ap (λ names. (y.text, binder) ∷ names) (names_last ys x binder scope)

pub names_gone : (names : List Word) (binder : ℕ) (scope : Named ℕ) → drop (length names) (with_names names binder scope) ≡ scope
names_gone [] binder scope = refl
names_gone (x ∷ xs) binder scope = names_gone xs binder scope

-- one name less
pub drop_one : {A : Type 0} (i : ℕ) (xs : List A) → drop 1 (drop i xs) ≡ drop (i + 1) xs
drop_one zero xs = refl
drop_one (suc i) [] = let e : suc i + 1 ≡ suc (i + 1) = omega arith in ap (λ k. drop k []) (sym e)
drop_one (suc i) (x ∷ xs) = let e : suc i + 1 ≡ suc (i + 1) = omega arith in drop_one i xs ∙ ap (λ k. drop k (x ∷ xs)) (sym e)

-- ---- sites

pub set_shown : (sites : List TheSite) (i : ℕ) (one : TheSite) → shown (set sites i one) ≡ set (shown sites) i (shown_site one)
set_shown sites i one = map-set shown_site sites i one

pub set_beyond : {A : Type 0} (xs : List A) (i : ℕ) (x : A) → length xs ≤ i → set xs i x ≡ xs
set_beyond [] i x le = refl
set_beyond (y ∷ ys) zero x le = absurd (omega (arith, le))
set_beyond (y ∷ ys) (suc i) x le = ap (λ zs. y ∷ zs) (set_beyond ys i x (omega (arith, le)))

pub put_nothing : (c : Context) (found : List Site) → put nothing c found ≡ found
unfolding put
put_nothing c found = append-nil found

-- two parts, three, and others in which lists stand
pub two_put : (span : Span) (kind : Kind) (round : Round) (scope scope1 : Named ℕ) (a b : In) (found f1 f2 f3 : List Site)
    → f1 ≡ noted span kind round found → f2 ≡ put a (seen round scope) f1 → scope1 ≡ scope → f3 ≡ put b (seen round scope1) f2
    → f3 ≡ put (plain span kind (before a b)) (seen round scope) found
two_put span kind round scope scope1 a b found f1 f2 f3 first second same third =
    third
    ∙ ap₂ (λ s f. put b (seen round s) f) same (second ∙ ap (put a (seen round scope)) first)
    ∙ put_before a b (seen round scope) (noted span kind round found)
    ∙ noted_part span kind round scope (before a b) found

pub leaf_put : (span : Span) (kind : Kind) (round : Round) (scope : Named ℕ) (found : List Site) → noted span kind round found ≡ put (plain span kind nothing) (seen round scope) found
unfolding put noted
leaf_put span kind round scope found = refl

pub all_put : (span : Span) (round : Round) (scope scope1 : Named ℕ) (a : In) (parts : List In) (found f1 f2 f3 : List Site)
    → f1 ≡ noted span unsaid round found → f2 ≡ put a (seen round scope) f1 → scope1 ≡ scope → f3 ≡ put_all parts (seen round scope1) f2
    → f3 ≡ put (plain span unsaid (before a (all parts))) (seen round scope) found
all_put span round scope scope1 a parts found f1 f2 f3 first second same third =
    two_put span unsaid round scope scope1 a (all parts) found f1 f2 f3 first second same (third ∙ put_all_is parts (seen round scope1) f2)

pub before_put : (span : Span) (round : Round) (scope scope1 : Named ℕ) (parts : List In) (a : In) (found f1 f2 f3 : List Site)
    → f1 ≡ noted span unsaid round found → f2 ≡ put_all parts (seen round scope) f1 → scope1 ≡ scope → f3 ≡ put a (seen round scope1) f2
    → f3 ≡ put (plain span unsaid (before (all parts) a)) (seen round scope) found
before_put span round scope scope1 parts a found f1 f2 f3 first second same third =
    two_put span unsaid round scope scope1 (all parts) a found f1 f2 f3 first (second ∙ put_all_is parts (seen round scope) f1) same third

pub three_put : (span : Span) (round : Round) (scope scope1 scope2 : Named ℕ) (a b d : In) (found f1 f2 f3 f4 : List Site)
    → f1 ≡ noted span unsaid round found → f2 ≡ put a (seen round scope) f1 → scope1 ≡ scope → f3 ≡ put b (seen round scope1) f2 → scope2 ≡ scope1 → f4 ≡ put d (seen round scope2) f3
    → f4 ≡ put (plain span unsaid (before a (before b d))) (seen round scope) found
three_put span round scope scope1 scope2 a b d found f1 f2 f3 f4 first second same third same2 fourth =
    two_put span unsaid round scope scope1 a (before b d) found f1 f2 f4 first second same
    (fourth ∙ ap₂ (λ s f. put d (seen round s) f) same2 third ∙ put_before b d (seen round scope1) f2)

pub switch_put : (span : Span) (round : Round) (scope scope1 scope2 : Named ℕ) (e : In) (cases : List Bound) (last : Option Bound) (binder : ℕ) (found f1 f2 f3 f4 : List Site)
    → f1 ≡ noted span unsaid round found → binder ≡ length f1 → f2 ≡ put e (seen round scope) f1 → scope1 ≡ scope → f3 ≡ put_bound cases binder (seen round scope1) f2 → scope2 ≡ scope1 → f4 ≡ put (some_bound last binder) (seen round scope2) f3
    → f4 ≡ put (plain span unsaid (before e (before (all_bound cases (1 + length found)) (some_bound last (1 + length found))))) (seen round scope) found
switch_put span round scope scope1 scope2 e cases last binder found f1 f2 f3 f4 first count second same third same2 fourth =
    let at : binder ≡ 1 + length found = count ∙ ap length first ∙ noted_length span unsaid round found in
    three_put span round scope scope1 scope2 e (all_bound cases (1 + length found)) (some_bound last (1 + length found)) found f1 f2 f3 f4 first second same
    (third ∙ put_bound_is cases binder (seen round scope1) f2 ∙ ap (λ n. put (all_bound cases n) (seen round scope1) f2) at)
    same2
    (fourth ∙ ap (λ n. put (some_bound last n) (seen round scope2) f3) at)

pub under_put : (span : Span) (x : Word) (round : Round) (scope scope1 : Named ℕ) (e body : In) (binder : ℕ) (found f1 f2 f3 : List Site)
    → f1 ≡ noted span unsaid round found → binder ≡ length f1 → f2 ≡ put e (seen round scope) f1 → scope1 ≡ scope → f3 ≡ put body (seen round ((x.text, binder) ∷ scope1)) f2
    → f3 ≡ put (numbered span (binding x e body)) (seen round scope) found
under_put span x round scope scope1 e body binder found f1 f2 f3 first count second same third =
    let at : binder ≡ 1 + length found = count ∙ ap length first ∙ noted_length span unsaid round found in
    third
    ∙ ap₂ (λ n s. put body (seen round ((x.text, n) ∷ s)) f2) at same
    ∙ ap (put body (seen round ((x.text, 1 + length found) ∷ scope))) (second ∙ ap (put e (seen round scope)) first)
    ∙ binding_put span x e body round scope found

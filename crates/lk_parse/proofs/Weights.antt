-- The weight of tokens, taken one by one.
use Rattle.std.proofs.Common.{◌≡◌, ℕ, zero, suc, ◌+◌, ◌<◌, ◌≤◌, Bool, true, false, List, [], ◌∷◌, ◌++◌, length, take, drop, get_or, refl, sym, ap, subst, ◌∙◌, inl, inr, arith}
use Rattle.std.specs.Prelude.{All, if◌then◌else◌, fold, codes}
use Rattle.std.proofs.Math.Seq.{take-append-add}
use Rattle.std.proofs.lemmas.Bool.{cases_lt, cases_order}
use Rattle.std.proofs.lemmas.List.{take-append-drop, drop_more, take_at, drop_at, take_more, take_all, take-take, take-append-le, length-take}
use Rattle.lk_ast.specs.declared.place.Span.{Span}
use Rattle.std.proofs.lemmas.List.Elements.{All-nil, All-cons, All-tail}
use Rattle.std.proofs.lemmas.List.Sums.{fold_more}
use Rattle.lk_ast.specs.declared.token.Token.{Token}
use Rattle.lk_ast.specs.declared.token.TokenKind.{TokenKind}
use Rattle.lk_parse.specs.Nesting.{Load, no_load, opened_load, closed_load, grown_load, next_load, is_sign_of, opening, closing, load_of, weight_of, nesting_limit, IsLight, IsTooNested, IsSmall}

-- what an open bracket's weight can be
abbrev Light : ℕ → Type 0
Light weight = weight ≤ nesting_limit

closed_small : (braced : Bool) (weight : ℕ) (opened : List ℕ) → All Light opened → All Light (closed_load braced weight opened).opened
closed_small braced weight [] h = h
closed_small braced weight (inner ∷ outer) h = All-tail Light inner outer h

next_small : (load : Load) (kind : TokenKind) → All Light load.opened → Light (next_load load kind).weight → All Light (next_load load kind).opened
next_small load kind h light = go (is_sign_of opening kind) (is_sign_of closing kind) light
  where
    next : Bool → Bool → Load
    next opens closes = if opens then opened_load load else if closes then closed_load (is_sign_of (codes "}" ∷ []) kind) load.weight load.opened else grown_load load kind

    go : (opens closes : Bool) → Light (next opens closes).weight → All Light (next opens closes).opened
    go true closes light = All-cons Light (load.weight + 1) load.opened light h
    go false true light = closed_small (is_sign_of (codes "}" ∷ []) kind) load.weight load.opened h
    go false false light = h

load_more : (tokens : List Token) (i : ℕ) (token : Token) → i < length tokens → token ≡ get_or tokens i token → load_of (take (i + 1) tokens) ≡ next_load (load_of (take i tokens)) token.kind
unfolding load_of
load_more tokens i token lt is = fold_more (λ load t. next_load load t.kind) no_load tokens i token lt ∙ ap (λ t. next_load (fold (λ load t. next_load load t.kind) no_load (take i tokens)) t.kind) (sym is)

-- the load is that of the first tokens, of which no front weighs too much
pub record HasRead (tokens : List Token) (load : Load) (i : ℕ) : Type 0 where
  pub is : load ≡ load_of (take i tokens)
  pub small : IsSmall load
  pub light : (n : ℕ) → n ≤ i → Light (weight_of (take n tokens))

pub nothing_read : (tokens : List Token) (load : Load) → load ≡ no_load → HasRead tokens load 0
unfolding load_of
nothing_read tokens load e = rw e (record { is = refl; small = record { weight = omega arith; opened = All-nil Light }; light = none })
  where
    none : (n : ℕ) → n ≤ 0 → Light (weight_of (take n tokens))
    none zero le = omega arith
    none (suc n) le = absurd (omega arith)

pub more_read : (tokens : List Token) (load new : Load) (i : ℕ) (token : Token) → i < length tokens → token ≡ get_or tokens i token → HasRead tokens load i → new ≡ next_load load token.kind → Light new.weight → HasRead tokens new (i + 1)
more_read tokens load new i token lt item read e light =
    let is : new ≡ load_of (take (i + 1) tokens) = e ∙ ap (λ (l : Load). next_load l token.kind) read.is ∙ sym (load_more tokens i token lt item) in
    record {
      is = is;
      small = record { weight = light; opened = subst (λ (l : Load). All Light l.opened) (sym e) (next_small load token.kind read.small.opened (subst (λ (l : Load). Light l.weight) e light)) };
      light = λ n le. elim (cases_lt n (i + 1)) [
        | inl below ↦ read.light n (omega arith)
        | inr last ↦ let here : i + 1 ≡ n = omega arith in subst (λ (m : ℕ). Light (weight_of (take m tokens))) here (subst (λ (l : Load). Light l.weight) is light)
      ];
    }

-- no front of a front weighs too much
light_front : (tokens : List Token) (i n : ℕ) → ((m : ℕ) → m ≤ i → Light (weight_of (take m tokens))) → Light (weight_of (take n (take i tokens)))
light_front tokens i n light = elim (cases_lt i n) [
  | inl over ↦ let whole : take n (take i tokens) ≡ take i tokens = take_all n (take i tokens) (omega (arith, length-take i tokens)) in rw whole (light i (omega arith))
  | inr within ↦ rw take-take (light n within)
]

pub all_light : (tokens : List Token) (load : Load) (i : ℕ) → length tokens ≤ i → HasRead tokens load i → IsLight tokens
all_light tokens load i end read n = subst (λ (ts : List Token). Light (weight_of (take n ts))) (take_all i tokens end) (light_front tokens i n read.light)

pub too_nested : (tokens : List Token) (load new : Load) (i : ℕ) (token : Token) → i < length tokens → token ≡ get_or tokens i token → HasRead tokens load i → new ≡ next_load load token.kind → (Light new.weight → ⊥) → IsTooNested tokens token.span
too_nested tokens load new i token lt item read e heavy =
    let is : new ≡ load_of (take (i + 1) tokens) = e ∙ ap (λ (l : Load). next_load l token.kind) read.is ∙ sym (load_more tokens i token lt item) in
    record {
      before = take i tokens;
      token = token;
      behind = drop (i + 1) tokens;
      place = sym (take-append-drop i tokens) ∙ ap (λ (ts : List Token). take i tokens ++ ts) (drop_more tokens i token lt ∙ ap (λ (t : Token). t ∷ drop (i + 1) tokens) (sym item));
      light = λ n. light_front tokens i n read.light;
      heavy = subst (λ (ts : List Token). nesting_limit < weight_of ts) (take_more tokens i token lt ∙ ap (λ (t : Token). take i tokens ++ t ∷ []) (sym item)) (subst (λ (l : Load). nesting_limit < l.weight) is over);
      is = refl;
    }
  where
    over : nesting_limit < new.weight
    over = elim (cases_lt nesting_limit new.weight) [ inl lt ↦ lt | inr le ↦ absurd (heavy le) ]

-- ---- one first token with which tokens nest too deep

front_light : (before behind : List Token) (token : Token) (tokens : List Token) (n : ℕ) → tokens ≡ before ++ token ∷ behind → IsLight before → n ≤ length before → Light (weight_of (take n tokens))
front_light before behind token tokens n e light within =
    let same : take n before ≡ take n tokens = sym (ap (take n) e ∙ take-append-le n before (token ∷ behind) within) in
    subst (λ (ts : List Token). Light (weight_of ts)) same (light n)

front_heavy : (before behind : List Token) (token : Token) (tokens : List Token) → tokens ≡ before ++ token ∷ behind → nesting_limit < weight_of (before ++ token ∷ []) → Light (weight_of (take (length before + 1) tokens)) → ⊥
front_heavy before behind token tokens e heavy light =
    let same : take (length before + 1) tokens ≡ before ++ token ∷ [] = ap (take (length before + 1)) e ∙ take-append-add before (token ∷ behind) 1 in
    let bad = subst (λ (ts : List Token). Light (weight_of ts)) same light in
    omega (arith, heavy, bad)

pub too_nested_same : (tokens : List Token) (span other : Span) → IsTooNested tokens span → IsTooNested tokens other → span ≡ other
too_nested_same tokens span other a b = elim (cases_order (length a.before) (length b.before)) [
  | inl same ↦
      let front : a.before ≡ b.before = sym (take_at a.before (a.token ∷ a.behind) (length a.before) refl) ∙ ap (take (length a.before)) (sym a.place ∙ b.place) ∙ take_at b.before (b.token ∷ b.behind) (length a.before) (sym same) in
      let rest : a.token ∷ a.behind ≡ b.token ∷ b.behind = sym (drop_at a.before (a.token ∷ a.behind) (length a.before) refl) ∙ ap (drop (length a.before)) (sym a.place ∙ b.place) ∙ drop_at b.before (b.token ∷ b.behind) (length a.before) (sym same) in
      let token : a.token ≡ b.token = cc in
      a.is ∙ ap (λ (t : Token). t.span) token ∙ sym b.is
  | inr differ ↦ elim differ [
    | inl less ↦ absurd (front_heavy a.before a.behind a.token tokens a.place a.heavy (front_light b.before b.behind b.token tokens (length a.before + 1) b.place b.light (omega arith)))
    | inr more ↦ absurd (front_heavy b.before b.behind b.token tokens b.place b.heavy (front_light a.before a.behind a.token tokens (length b.before + 1) a.place a.light (omega arith)))
  ]
]

-- and none that are light have one
pub light_not_nested : (tokens : List Token) (span : Span) → IsLight tokens → IsTooNested tokens span → ⊥
light_not_nested tokens span light a = front_heavy a.before a.behind a.token tokens a.place a.heavy (light (length a.before + 1))

-- What stops the reader of a part: no token behind it that the part would take.
use Rattle.std.proofs.Common.{◌≡◌, ℕ, suc, ◌<◌, ◌≤◌, Bool, true, false, List, [], ◌∷◌, refl, sym, ap, ◌∙◌, inl, inr, arith}
use Rattle.std.specs.Prelude.{codes, not, nat_eq, ◌||◌, if◌then◌else◌}
use Rattle.std.specs.Str.{bytes_eq}
use Rattle.std.proofs.lemmas.Bool.{cases_Bool, eqb-true}
use Rattle.lk_ast.specs.declared.expression.Node.{Node}
use Rattle.lk_ast.specs.declared.token.Token.{Token}
use Rattle.lk_read.specs.Kinds.{is_sign, IsSign, IsWord}
use Rattle.lk_read.specs.Reader.{peek}
use Rattle.lk_read.proofs.KindLaws.{a_sign, sign_sign, word_sign}
use Rattle.lk_parts.specs.Operators.{level_of_kind, level_of_sign, level_of_word, level_of, rank, is_operator}
use Rattle.lk_parts.specs.Parts.{behind, is_form_end, is_open_end, form_end, takes_operator, takes_comparison, negated, binary, compared_by, opened}
use Rattle.lk_grammar.specs.Reading.{is_postfix}
use Rattle.lk_parts.specs.declared.operators.Level.{Level}
use Rattle.lk_parts.specs.declared.operators.Level.TheVariants as level
use Rattle.lk_parts.specs.declared.part.Ends.{Ends}
use Rattle.lk_parts.specs.declared.part.Ends.TheVariants as ends
use Rattle.lk_parts.specs.declared.part.Part.{Part}

abbrev pub is_comparison : Level → Bool
is_comparison level.Comparison = true
is_comparison other = false

-- At this level, from 1 for the loosest operators to 7 for none, nothing goes on with the part e: no call and no field, no
-- operator of this level or a tighter one, and none that the form at its end would take.
pub record Stops (at_least : ℕ) (e : Part) (z : List Token) : Type 0 where
  pub postfix : peek is_postfix z ≡ false
  pub operator : (at : Level) → is_comparison at ≡ false → at_least ≤ rank at → peek (is_operator at) z ≡ false
  pub comparison : at_least ≤ 3 → e.compared ≡ false → peek (is_operator level.Comparison) z ≡ false
  pub trailing : (at : Level) → is_comparison at ≡ false → is_open_end e.ends ≡ true → peek (is_operator at) z ≡ false
  pub form : is_form_end e.ends ≡ true → peek (is_operator level.Comparison) z ≡ false

-- nothing goes on with any part
abbrev pub Shut : List Token → Type 0
Shut z = (at_least : ℕ) (e : Part) → Stops at_least e z

-- ---- one token

rank-not_none : (at : Level) → nat_eq 0 (rank at) ≡ false
rank-not_none level.Or = refl
rank-not_none level.And = refl
rank-not_none level.Comparison = refl
rank-not_none level.Join = refl
rank-not_none level.Sum = refl
rank-not_none level.Product = refl

no_operator : (at : Level) (t : Token) → level_of t ≡ 0 → is_operator at t ≡ false
unfolding is_operator
no_operator at t e = ap (λ (n : ℕ). nat_eq n (rank at)) e ∙ rank-not_none at

shut : (t : Token) (z : List Token) → level_of t ≡ 0 → is_postfix t ≡ false → Shut (t ∷ z)
shut t z e p at_least part = record {
  postfix = p;
  operator = λ at c le. no_operator at t e;
  comparison = λ le c. no_operator level.Comparison t e;
  trailing = λ at c o. no_operator at t e;
  form = λ f. no_operator level.Comparison t e;
}

-- signs that go on with nothing
pub shut_sign : (s : List ℕ) (t : Token) (z : List Token) → level_of_sign s ≡ 0 → bytes_eq s (codes "(") ≡ false → bytes_eq s (codes ".") ≡ false → IsSign s t → Shut (t ∷ z)
shut_sign s t z l p q h = shut t z (ap level_of_kind h ∙ l)
    (ap (λ (b : Bool). b || is_sign (codes ".") t) (sign_sign s (codes "(") t h ∙ p) ∙ sign_sign s (codes ".") t h ∙ q)

pub shut_word : (w : List ℕ) (t : Token) (z : List Token) → level_of_word w ≡ 0 → IsWord w t → Shut (t ∷ z)
shut_word w t z l h = shut t z (ap level_of_kind h ∙ l)
    (ap (λ (b : Bool). b || is_sign (codes ".") t) (word_sign w (codes "(") t h) ∙ word_sign w (codes ".") t h)

-- an operator is neither a call nor a field
not_sign : (at : Level) (s : List ℕ) (t : Token) → level_of_sign s ≡ 0 → is_operator at t ≡ true → is_sign s t ≡ false
not_sign at s t l h = elim (cases_Bool (is_sign s t)) [
  | inl k ↦ let none : is_operator at t ≡ false = no_operator at t (ap level_of_kind ((a_sign s).means t k) ∙ l) in let bad : true ≡ false = sym h ∙ none in absurd cc
  | inr k ↦ k
]

operator_postfix : (at : Level) (t : Token) → is_operator at t ≡ true → is_postfix t ≡ false
unfolding level_of_sign
operator_postfix at t h = ap (λ (b : Bool). b || is_sign (codes ".") t) (not_sign at (codes "(") t refl h) ∙ not_sign at (codes ".") t refl h

-- an operator is of one level
other_level : (at other : Level) (t : Token) → nat_eq (rank at) (rank other) ≡ false → is_operator at t ≡ true → is_operator other t ≡ false
unfolding is_operator
other_level at other t e h = ap (λ (n : ℕ). nat_eq n (rank other)) (eqb-true (level_of t) (rank at) h) ∙ e

looser : (at other : Level) → rank at < rank other → nat_eq (rank at) (rank other) ≡ false
looser at other lt = elim (cases_Bool (nat_eq (rank at) (rank other))) [
  | inl k ↦ let same = eqb-true (rank at) (rank other) k in let bad : ⊥ = omega (arith, same) in absurd bad
  | inr k ↦ k
]

unlike : (at : Level) → is_comparison at ≡ false → (nat_eq (rank at) 3 ≡ false) × (nat_eq 3 (rank at) ≡ false)
unlike level.Or e = (refl, refl)
unlike level.And e = (refl, refl)
unlike level.Comparison e = absurd cc
unlike level.Join e = (refl, refl)
unlike level.Sum e = (refl, refl)
unlike level.Product e = (refl, refl)

-- ---- ends

behind-open : (x : Ends) → is_open_end (behind x) ≡ is_open_end x
behind-open ends.Closed = refl
behind-open ends.Name = refl
behind-open ends.Tag = refl
behind-open ends.Form = refl
behind-open ends.Compared = refl

behind-form : (x : Ends) → is_form_end (behind x) ≡ is_form_end x
behind-form ends.Closed = refl
behind-form ends.Name = refl
behind-form ends.Tag = refl
behind-form ends.Form = refl
behind-form ends.Compared = refl

form_open : (x : Ends) → is_form_end x ≡ true → is_open_end x ≡ true
form_open ends.Closed e = absurd cc
form_open ends.Name e = absurd cc
form_open ends.Tag e = absurd cc
form_open ends.Form e = refl
form_open ends.Compared e = absurd cc

never : (b : Bool) → not b ≡ true → b ≡ true → ⊥
never true e f = absurd cc
never false e f = absurd cc

pub too_high : 4 ≤ 3 → ⊥
too_high le = omega arith

no_level : 7 ≤ 3 → ⊥
no_level le = omega arith

-- ---- from a part to its parts

-- a looser level stops where a tighter one does
pub tighter : (l m : ℕ) (e : Part) (z : List Token) → l ≤ m → Stops l e z → Stops m e z
tighter l m e z le s = record {
  postfix = s.postfix;
  operator = λ at c k. s.operator at c (omega arith);
  comparison = λ k c. s.comparison (omega arith) c;
  trailing = s.trailing;
  form = s.form;
}

-- the left operand stops before its operator
pub stops_left : (at : Level) (a : Part) (s : Token) (z : List Token) → is_comparison at ≡ false → takes_operator a ≡ true → is_operator at s ≡ true → Stops (suc (rank at)) a (s ∷ z)
stops_left at a s z c ok h = record {
  postfix = operator_postfix at s h;
  operator = λ other d le. other_level at other s (looser at other (omega arith)) h;
  comparison = λ le d. other_level at level.Comparison s (unlike at c).0 h;
  trailing = λ other d o. absurd (never (is_open_end a.ends) ok o);
  form = λ f. absurd (never (is_open_end a.ends) ok (form_open a.ends f));
}

pub stops_compared : (a : Part) (s : Token) (z : List Token) → takes_comparison a ≡ true → is_operator level.Comparison s ≡ true → Stops 4 a (s ∷ z)
stops_compared a s z ok h = record {
  postfix = operator_postfix level.Comparison s h;
  operator = λ other d le. other_level level.Comparison other s (unlike other d).1 h;
  comparison = λ le d. absurd (too_high le);
  trailing = λ other d o. other_level level.Comparison other s (unlike other d).1 h;
  form = λ f. absurd (never (is_form_end a.ends) ok f);
}

-- the right operand stops where the whole does
pub stops_right : (l m : ℕ) (at : Level) (a b : Part) (s : Token) (z : List Token) → l ≤ m → (m ≤ 3 → b.compared ≡ false → compared_by at b ≡ false) → Stops l (binary at a s b) z → Stops m b z
stops_right l m at a b s z le keeps h = record {
  postfix = h.postfix;
  operator = λ other d k. h.operator other d (omega arith);
  comparison = λ k d. h.comparison (omega arith) (keeps k d);
  trailing = λ other d o. h.trailing other d (behind-open b.ends ∙ o);
  form = λ f. h.form (behind-form b.ends ∙ f);
}

pub stops_negated : (s : Token) (e : Part) (z : List Token) → Stops 7 (negated s e) z → Stops 7 e z
stops_negated s e z h = record {
  postfix = h.postfix;
  operator = h.operator;
  comparison = λ k d. absurd (no_level k);
  trailing = λ other d o. h.trailing other d (behind-open e.ends ∙ o);
  form = λ f. h.form (behind-form e.ends ∙ f);
}

either-open : (b : Bool) → is_open_end (if b then ends.Form else ends.Compared) ≡ true
either-open true = refl
either-open false = refl

not_compared : (f c : Bool) → c ≡ false → is_form_end (if (f || not c) then ends.Form else ends.Compared) ≡ true
not_compared true c e = refl
not_compared false true e = absurd cc
not_compared false false e = refl

at_form : (f c : Bool) → f ≡ true → is_form_end (if (f || not c) then ends.Form else ends.Compared) ≡ true
at_form true c e = refl
at_form false c e = absurd cc

-- the expression at the end of a form stops where the form does
pub stops_opened : (k : Token) (e : Part) (made : Node) (z : List Token) → Stops 7 (opened k e made) z → Stops 1 e z
stops_opened k e made z h =
    let opens : is_open_end (form_end e) ≡ true = either-open (is_form_end e.ends || not e.compared) in
    record {
      postfix = h.postfix;
      operator = λ at c le. h.trailing at c opens;
      comparison = λ le c. h.form (not_compared (is_form_end e.ends) e.compared c);
      trailing = λ at c o. h.trailing at c opens;
      form = λ f. h.form (at_form (is_form_end e.ends) e.compared f);
    }

-- no call comes next
pub no_call : (z : List Token) → peek is_postfix z ≡ false → peek (is_sign (codes "(")) z ≡ false
no_call [] e = refl
no_call (t ∷ z) e = first (is_sign (codes "(") t) (is_sign (codes ".") t) e
  where
    first : (a b : Bool) → (a || b) ≡ false → a ≡ false
    first true b q = absurd cc
    first false b q = refl

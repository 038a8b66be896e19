-- What the grammar derives is read, unless the room is too small: operators, calls and fields. What stands before the
-- turns of a loop is read whatever the turns that are left give.
use Rattle.std.proofs.Common.{◌≡◌, ℕ, zero, suc, ◌≤◌, Bool, true, false, List, [], ◌∷◌, ◌++◌, Ok, refl, sym, ap, ◌∙◌, append_assoc, arith}
use Rattle.std.specs.Prelude.{codes, not}
use Rattle.std.specs.Str.{bytes_eq}
use Rattle.std.proofs.lemmas.Bool.{or_left, or_right}
use Rattle.lk_ast.specs.declared.expression.Expr.{Expr}
use Rattle.lk_ast.specs.declared.token.Token.{Token}
use Rattle.lk_read.specs.Kinds.{IsSign, IsName, is_sign}
use Rattle.lk_read.specs.Reader.{Reading, Reader, peek, many}
use Rattle.lk_read.proofs.Below.{◌⊑◌, bind-finds, eat-finds, give-finds, tired-finds, given-finds, when-yes, when-no, many-ends, many-goes}
use Rattle.lk_read.proofs.KindLaws.{sign_sign}
use Rattle.lk_read.proofs.Moves.{along, here}
use Rattle.lk_rows.specs.Reading.{comma}
use Rattle.lk_grammar.specs.Expressions.{IsPostfix, IsSome}
use Rattle.lk_parts.specs.Operators.{level_of_sign, rank, is_operator}
use Rattle.lk_parts.specs.Parts.{negated, binary, compared_by, called, projected, is_tag_end, takes_operator, takes_comparison, takes_call}
use Rattle.lk_grammar.specs.Reading.{operator_next, operator_turn, left_with, join_with, compare_turn, comparison_with, unary_with, args_turn, some_with, args_with, call_with, read_field, postfix_turn, postfix_next, postfix_with, primary_with, form_with, unary_over, product_over, sum_over, join_over, comparison_over, and_over, or_over, expr_at}
use Rattle.lk_parts.specs.Starts.{start_of_sign, begins}
use Rattle.lk_parts.specs.declared.operators.Level.{Level}
use Rattle.lk_parts.specs.declared.operators.Level.TheVariants as level
use Rattle.lk_parts.specs.declared.part.Part.{Part}
use Rattle.lk_parts.specs.declared.starts.Start.TheVariants as start
use Rattle.lk_grammar.proofs.Follows.{is_comparison, Stops, Shut, shut_sign, tighter, stops_left, stops_compared, stops_right, stops_negated, no_call, too_high}
use Rattle.lk_parts.proofs.StartLaws.{is_primary_start, is_expr_start, first_not_sign, first_not_form}
use Rattle.lk_grammar.proofs.Beginnings.{postfix_begins, some_begins}

-- ---- left-associative operators

module _ (at : Level) (plain : is_comparison at ≡ false) (operand : ℕ → Reader Part) where
  abbrev pub Operand_finds : List Token → Part → Type 0
  Operand_finds w e = (n : ℕ) (z : List Token) → Stops (suc (rank at)) e z → operand n (w ++ z) ⊑ Ok (e, z)

  abbrev pub Left_finds : List Token → Part → Type 0
  Left_finds w e = (n : ℕ) (z : List Token) (v : Reading Part) → Stops (suc (rank at)) e z → ((m : ℕ) → many (operator_next at) (operator_turn at (operand n)) m e z ⊑ v) → left_with at (operand n) n (w ++ z) ⊑ v

  pub left_up : (w : List Token) (e : Part) → Operand_finds w e → Left_finds w e
  unfolding left_with
  left_up w e f n z v stop k = bind-finds _ _ _ (f n z stop) (k n)

  pub left_op : (s : Token) (u w : List Token) (a b : Part) → Left_finds u a → takes_operator a ≡ true → is_operator at s ≡ true → Operand_finds w b → (suc (rank at) ≤ 3 → b.compared ≡ false → compared_by at b ≡ false) → Left_finds (u ++ s ∷ w) (binary at a s b)
  unfolding operator_turn
  left_op s u w a b f ok h g keeps n z v stop more = along (left_with at (operand n) n) v (sym (append_assoc u (s ∷ w) z))
      (f n (s ∷ (w ++ z)) v (stops_left at a s (w ++ z) plain ok h)
      (many-goes (operator_next at) _ a (s ∷ (w ++ z)) h
      (given-finds _ _ _ ok (eat-finds _ _ _ _ h (bind-finds _ _ _ (g n z (stops_right (suc (rank at)) (suc (rank at)) at a b s z (omega arith) keeps stop)) (give-finds _ _))))
      more))

  pub left_whole : (w : List Token) (e : Part) → Left_finds w e → (n : ℕ) (z : List Token) → Stops (rank at) e z → left_with at (operand n) n (w ++ z) ⊑ Ok (e, z)
  left_whole w e f n z stop = f n z (Ok (e, z)) (tighter (rank at) (suc (rank at)) e z (omega arith) stop) (λ m. many-ends (operator_next at) _ m e z (stop.operator at plain (omega arith)))

-- ---- the readers with one room

abbrev pub UNARY : ℕ → Reader Part
UNARY n = unary_over (expr_at n) n n

abbrev pub PRODUCT : ℕ → Reader Part
PRODUCT n = product_over (expr_at n) n

abbrev pub SUM : ℕ → Reader Part
SUM n = sum_over (expr_at n) n

abbrev pub COMPARISON : ℕ → Reader Part
COMPARISON n = comparison_over (expr_at n) n

abbrev pub AND : ℕ → Reader Part
AND n = and_over (expr_at n) n

abbrev pub POSTFIX : ℕ → Reader Part
POSTFIX n = postfix_with (primary_with (expr_at n) n) (expr_at n) n

-- ---- what is found at each level

abbrev pub Expr_finds : List Token → Part → Type 0
Expr_finds = Left_finds level.Or refl AND

-- a whole expression
abbrev pub Whole : List Token → Part → Type 0
Whole w e = (n : ℕ) (z : List Token) → Stops 1 e z → expr_at n (w ++ z) ⊑ Ok (e, z)

abbrev pub And_finds : List Token → Part → Type 0
And_finds = Left_finds level.And refl COMPARISON

abbrev pub Comparison_finds : List Token → Part → Type 0
Comparison_finds w e = (n : ℕ) (z : List Token) → Stops 3 e z → COMPARISON n (w ++ z) ⊑ Ok (e, z)

abbrev pub Join_finds : List Token → Part → Type 0
Join_finds w e = (n m : ℕ) (z : List Token) → Stops 4 e z → join_over (expr_at n) n m (w ++ z) ⊑ Ok (e, z)

abbrev pub Sum_finds : List Token → Part → Type 0
Sum_finds = Left_finds level.Sum refl PRODUCT

abbrev pub Product_finds : List Token → Part → Type 0
Product_finds = Left_finds level.Product refl UNARY

abbrev pub Unary_finds : List Token → Part → Type 0
Unary_finds w e = (n m : ℕ) (z : List Token) → Stops 7 e z → unary_over (expr_at n) n m (w ++ z) ⊑ Ok (e, z)

abbrev pub Form_finds : List Token → Part → Type 0
Form_finds w e = (n : ℕ) (z : List Token) → Stops 7 e z → form_with (expr_at n) n (w ++ z) ⊑ Ok (e, z)

-- what stands behind a tag isn't `(`, since that would be the tag's
abbrev pub Untagged : Part → List Token → Type 0
Untagged e z = is_tag_end e.ends ≡ true → peek (is_sign (codes "(")) z ≡ false

abbrev pub Postfix_finds : List Token → Part → Type 0
Postfix_finds w e = (n : ℕ) (z : List Token) (v : Reading Part) → Untagged e z → ((m : ℕ) → many postfix_next (postfix_turn (expr_at n) n) m e z ⊑ v) → POSTFIX n (w ++ z) ⊑ v

abbrev pub Primary_finds : List Token → Part → Type 0
Primary_finds w e = (n : ℕ) (z : List Token) → Untagged e z → primary_with (expr_at n) n (w ++ z) ⊑ Ok (e, z)

-- ---- a whole expression, and the operands

pub whole : (w : List Token) (e : Part) → Expr_finds w e → Whole w e
unfolding expr_at or_over
whole w e f zero z stop = tired-finds _ _
whole w e f (suc n) z stop = left_whole level.Or refl AND w e f n z stop

pub and_whole : (w : List Token) (e : Part) → And_finds w e → Operand_finds level.Or refl AND w e
unfolding and_over
and_whole w e f n z stop = left_whole level.And refl COMPARISON w e f n z stop

pub sum_whole : (w : List Token) (e : Part) → Sum_finds w e → (n : ℕ) (z : List Token) → Stops 5 e z → SUM n (w ++ z) ⊑ Ok (e, z)
unfolding sum_over
sum_whole w e f n z stop = left_whole level.Sum refl PRODUCT w e f n z stop

pub product_whole : (w : List Token) (e : Part) → Product_finds w e → Operand_finds level.Sum refl PRODUCT w e
unfolding product_over
product_whole w e f n z stop = left_whole level.Product refl UNARY w e f n z stop

pub unary_whole : (w : List Token) (e : Part) → Unary_finds w e → Operand_finds level.Product refl UNARY w e
unary_whole w e f n z stop = f n n z stop

-- ---- right-associative operators

pub join_up : (w : List Token) (e : Part) → Sum_finds w e → Join_finds w e
unfolding join_over join_with
join_up w e f n zero z stop = tired-finds _ _
join_up w e f n (suc m) z stop = bind-finds _ _ _ (sum_whole w e f n z (tighter 4 5 e z (omega arith) stop)) (when-no _ _ _ _ (stop.operator level.Join refl (omega arith)) (give-finds _ _))

pub join_op : (s : Token) (u w : List Token) (a b : Part) → Sum_finds u a → takes_operator a ≡ true → is_operator level.Join s ≡ true → Join_finds w b → Join_finds (u ++ s ∷ w) (binary level.Join a s b)
unfolding join_over join_with operator_turn
join_op s u w a b f ok h g n zero z stop = tired-finds _ _
join_op s u w a b f ok h g n (suc m) z stop = along (join_over (expr_at n) n (suc m)) _ (sym (append_assoc u (s ∷ w) z))
    (bind-finds _ _ _ (sum_whole u a f n (s ∷ (w ++ z)) (stops_left level.Join a s (w ++ z) refl ok h))
    (when-yes _ _ _ _ h (given-finds _ _ _ ok (eat-finds _ _ _ _ h
    (bind-finds _ _ _ (g n m z (stops_right 4 4 level.Join a b s z (omega arith) (λ le. absurd (too_high le)) stop)) (give-finds _ _))))))

-- ---- comparisons

pub comparison_up : (w : List Token) (e : Part) → e.compared ≡ false → Join_finds w e → Comparison_finds w e
unfolding comparison_over comparison_with
comparison_up w e c f n z stop = bind-finds _ _ _ (f n n z (tighter 3 4 e z (omega arith) stop)) (when-no _ _ _ _ (stop.comparison (omega arith) c) (give-finds _ _))

pub comparison_op : (s : Token) (u w : List Token) (a b : Part) → Join_finds u a → takes_comparison a ≡ true → is_operator level.Comparison s ≡ true → Join_finds w b → Comparison_finds (u ++ s ∷ w) (binary level.Comparison a s b)
unfolding comparison_over comparison_with compare_turn
comparison_op s u w a b f ok h g n z stop = along (COMPARISON n) _ (sym (append_assoc u (s ∷ w) z))
    (bind-finds _ _ _ (f n n (s ∷ (w ++ z)) (stops_compared a s (w ++ z) ok h))
    (when-yes _ _ _ _ h (given-finds _ _ _ ok (eat-finds _ _ _ _ h
    (bind-finds _ _ _ (g n n z (stops_right 3 4 level.Comparison a b s z (omega arith) (λ le. absurd (too_high le)) stop)) (give-finds _ _))))))

-- ---- a sign before an operand, forms, and the rest

pub negation_finds : (s : Token) (w : List Token) (e : Part) → IsSign (codes "-") s → Unary_finds w e → Unary_finds (s ∷ w) (negated s e)
unfolding unary_over unary_with
negation_finds s w e h f n zero z stop = tired-finds _ _
negation_finds s w e h f n (suc m) z stop = let minus = here (codes "-") s h refl in
    when-yes _ _ _ _ minus (eat-finds _ _ _ _ minus (bind-finds _ _ _ (f n m z (stops_negated s e z stop)) (give-finds _ _)))

pub form_finds : (w : List Token) (e : Part) → ((z : List Token) → (peek (is_sign (codes "-")) (w ++ z) ≡ false) × (peek (begins start.Form) (w ++ z) ≡ true)) → Form_finds w e → Unary_finds w e
unfolding unary_over unary_with
form_finds w e start f n zero z stop = tired-finds _ _
form_finds w e start f n (suc m) z stop = when-no _ _ _ _ (start z).0 (when-yes _ _ _ _ (start z).1 (f n z stop))

pub postfix_finds : (w : List Token) (e : Part) → IsPostfix w e → Postfix_finds w e → Unary_finds w e
unfolding unary_over unary_with start_of_sign
postfix_finds w e d f n zero z stop = tired-finds _ _
postfix_finds w e d f n (suc m) z stop = let starts = postfix_begins d z in
    when-no _ _ _ _ (first_not_sign is_primary_start (codes "-") (w ++ z) starts refl) (when-no _ _ _ _ (first_not_form (w ++ z) starts)
    (f n z (Ok (e, z)) (λ t. no_call z stop.postfix) (λ i. many-ends postfix_next _ i e z stop.postfix)))

-- ---- calls and fields

pub primary_up : (w : List Token) (e : Part) → Primary_finds w e → Postfix_finds w e
unfolding postfix_with
primary_up w e f n z v un k = bind-finds _ _ _ (f n z un) (k n)

abbrev pub Args_finds : List ℕ → List Token → List Expr → Type 0
Args_finds close w es = (n : ℕ) (c : Token) (z : List Token) → IsSign close c → args_with close (expr_at n) n (w ++ c ∷ z) ⊑ Ok (es, c ∷ z)

abbrev pub Some_find : List Token → List Expr → Type 0
Some_find w es = (n : ℕ) (z : List Token) (v : Reading (List Expr)) → Shut z → ((m : ℕ) → many comma (args_turn (expr_at n)) m es z ⊑ v) → some_with (expr_at n) n (w ++ z) ⊑ v

not_both : (f : Part) → takes_call f ≡ true → is_tag_end f.ends ≡ true → ⊥
not_both f ok t = both (is_tag_end f.ends) ok t
  where
    both : (b : Bool) → not b ≡ true → b ≡ true → ⊥
    both true p q = absurd cc
    both false p q = absurd cc

pub call_finds : (o c : Token) (u w : List Token) (f : Part) (args : List Expr) → Postfix_finds u f → takes_call f ≡ true → IsSign (codes "(") o → Args_finds (codes ")") w args → IsSign (codes ")") c → Postfix_finds (u ++ o ∷ (w ++ c ∷ [])) (called f args c)
unfolding postfix_turn call_with
call_finds o c u w f args p ok h a k n z v un more = let opens = here (codes "(") o h refl in
    along (POSTFIX n) v (sym (append_assoc u (o ∷ (w ++ c ∷ [])) z ∙ ap (λ (y : List Token). u ++ o ∷ y) (append_assoc w (c ∷ []) z)))
    (p n (o ∷ (w ++ c ∷ z)) v (λ t. absurd (not_both f ok t))
    (many-goes postfix_next _ f (o ∷ (w ++ c ∷ z)) (or_left (is_sign (codes "(") o) (is_sign (codes ".") o) opens)
    (when-yes _ _ _ _ opens (given-finds _ _ _ ok (eat-finds _ _ _ _ opens (bind-finds _ _ _ (a n c z k) (eat-finds _ _ _ _ (here (codes ")") c k refl) (give-finds _ _))))))
    more))

pub project_finds : (d l : Token) (u : List Token) (e : Part) → Postfix_finds u e → IsSign (codes ".") d → IsName l → Postfix_finds (u ++ d ∷ l ∷ []) (projected e l)
unfolding postfix_turn read_field
project_finds d l u e p h k n z v un more = let dot = here (codes ".") d h refl in let other = sign_sign (codes ".") (codes "(") d h in
    along (POSTFIX n) v (sym (append_assoc u (d ∷ l ∷ []) z))
    (p n (d ∷ l ∷ z) v (λ t. other)
    (many-goes postfix_next _ e (d ∷ l ∷ z) (or_right (is_sign (codes "(") d) (is_sign (codes ".") d) dot)
    (when-no _ _ _ _ other (eat-finds _ _ _ _ dot (eat-finds _ _ _ _ k (give-finds _ _))))
    more))

-- signs that close what stands between brackets
pub record Closes (s : List ℕ) : Type 0 where
  pub level : level_of_sign s ≡ 0
  pub round : bytes_eq s (codes "(") ≡ false
  pub dot : bytes_eq s (codes ".") ≡ false
  pub comma : bytes_eq s (codes ",") ≡ false
  pub itself : bytes_eq s s ≡ true
  pub start : is_expr_start (start_of_sign s) ≡ false

pub closes_shut : (s : List ℕ) (c : Token) (z : List Token) → Closes s → IsSign s c → Shut (c ∷ z)
closes_shut s c z k h = shut_sign s c z k.level k.round k.dot h

pub no_args_finds : (close : List ℕ) → Closes close → Args_finds close [] []
unfolding args_with
no_args_finds close k n c z h = when-yes _ _ _ _ (here close c h k.itself) (give-finds _ _)

pub some_args_finds : (close : List ℕ) → Closes close → (w : List Token) (es : List Expr) → IsSome w es → Some_find w es → Args_finds close w es
unfolding args_with
some_args_finds close k w es d f n c z h = when-no _ _ _ _ (first_not_sign is_expr_start close (w ++ c ∷ z) (some_begins d (c ∷ z)) k.start)
    (f n (c ∷ z) (Ok (es, c ∷ z)) (closes_shut close c z k h) (λ m. many-ends comma _ m es (c ∷ z) (sign_sign close (codes ",") c h ∙ k.comma)))

pub first_arg_finds : (w : List Token) (e : Part) → Whole w e → Some_find w (e.expr ∷ [])
unfolding some_with
first_arg_finds w e f n z v s k = bind-finds _ _ _ (f n z (s 1 e)) (k n)

pub comma_shut : (s : Token) (z : List Token) → IsSign (codes ",") s → Shut (s ∷ z)
unfolding level_of_sign
comma_shut s z h = shut_sign (codes ",") s z refl refl refl h

pub next_arg_finds : (s : Token) (u w : List Token) (es : List Expr) (e : Part) → Some_find u es → IsSign (codes ",") s → Whole w e → Some_find (u ++ s ∷ w) (es ++ e.expr ∷ [])
unfolding args_turn
next_arg_finds s u w es e p h f n z v sh more = let sep = here (codes ",") s h refl in
    along (some_with (expr_at n) n) v (sym (append_assoc u (s ∷ w) z))
    (p n (s ∷ (w ++ z)) v (comma_shut s (w ++ z) h)
    (many-goes comma _ es (s ∷ (w ++ z)) sep (eat-finds _ _ _ _ sep (bind-finds _ _ _ (f n z (sh 1 e)) (give-finds _ _))) more))

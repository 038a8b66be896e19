-- What the readers of operators, calls and fields find, and where they stop.
use Rattle.std.proofs.Common.{◌≡◌, ℕ, zero, suc, true, List, [], ◌∷◌, ◌++◌, refl, ◌∙◌}
use Rattle.std.specs.Prelude.{codes}
use Rattle.std.proofs.lemmas.List.{append-nil}
use Rattle.lk_ast.specs.declared.expression.Expr.{Expr}
use Rattle.lk_ast.specs.declared.token.Token.{Token}
use Rattle.lk_ast.specs.declared.token.TokenKind.TheVariants.{Text}
use Rattle.lk_read.specs.Exact.{Language}
use Rattle.lk_read.specs.Reader.{Reader}
use Rattle.lk_read.proofs.KindLaws.{some_token, a_sign, a_name}
use Rattle.lk_read.proofs.Laws.{Completes, Reads, Grows, Grows-nil, weaken, bind-reads, when-reads, given-reads, give-reads, tired-reads, many-reads, eat-reads, made-reads}
use Rattle.lk_read.proofs.Moves.{moved, cons, after, Close, closed}
use Rattle.lk_rows.specs.Reading.{comma}
use Rattle.lk_grammar.specs.Expressions.{IsExpr, IsAnd, IsComparison, IsJoin, IsSum, IsProduct, IsUnary, IsForm, IsPostfix, IsPrimary, IsArgs, IsSome}
use Rattle.lk_parts.specs.Operators.{is_operator}
use Rattle.lk_parts.specs.Parts.{literal, negated, binary, called, takes_operator, takes_comparison, takes_call}
use Rattle.lk_grammar.specs.Reading.{operator_next, operator_turn, left_with, join_with, compare_turn, comparison_with, unary_with, args_turn, some_with, args_with, call_with, read_field, postfix_turn, postfix_next, postfix_with}
use Rattle.lk_parts.specs.Starts.{begins}
use Rattle.lk_parts.specs.declared.operators.Level.{Level}
use Rattle.lk_parts.specs.declared.operators.Level.TheVariants as level
use Rattle.lk_parts.specs.declared.part.Part.{Part}
use Rattle.lk_parts.proofs.TokenTests.{an_operator}

-- ---- something of each language

abbrev pub text_token : Token
text_token = some_token (Text [])

pub primary_begins : Completes IsPrimary []
unfolding begins
primary_begins = record { more = text_token ∷ []; value = literal text_token; whole = IsPrimary.literal_token text_token refl }

pub unary_begins : Completes IsUnary []
unary_begins = let b = primary_begins in record { more = b.more; value = b.value; whole = IsUnary.postfix (IsPostfix.primary b.whole) }

pub join_begins : Completes IsJoin []
join_begins = let b = unary_begins in record { more = b.more; value = b.value; whole = IsJoin.sum_level (IsSum.product_level (IsProduct.unary_level b.whole)) }

pub expr_begins : Completes IsExpr []
expr_begins = let b = join_begins in record { more = b.more; value = b.value; whole = IsExpr.and_level (IsAnd.comparison_level (IsComparison.join_level b.whole)) }

grows-begins : (Q : Language Part) (a : Part) → Completes (Grows Q a) []
grows-begins Q a = record { more = []; value = a; whole = Grows-nil Q a a [] refl refl }

-- ---- left-associative operators

module _ (at : Level) (operand : Reader Part) (R Q : Language Part) (O : Reads operand R)
    (up : (w : List Token) (e : Part) → R w e → Q w e)
    (op : (u v : List Token) (s : Token) (a b : Part) → Q u a → takes_operator a ≡ true → is_operator at s ≡ true → R v b → Q (u ++ s ∷ v) (binary at a s b)) where
  left_turn-reads : (a : Part) → Reads (operator_turn at operand a) (Grows Q a)
  unfolding operator_turn
  left_turn-reads a = given-reads (Grows Q a) (takes_operator a) _ (grows-begins Q a) (λ ok.
      weaken _ (Grows Q a) (eat-reads _ _ (an_operator at) (λ s. made-reads operand (binary at a s) R O))
      (λ w x h u q. moved Q (after u h.is) h.after.is (op u h.v h.t a h.after.x q ok h.test h.after.of)))

  pub left-reads : (n : ℕ) → Reads (left_with at operand n) Q
  unfolding left_with
  left-reads n = weaken _ Q (bind-reads _ _ R (Grows Q) O (λ a. many-reads (operator_next at) (operator_turn at operand) Q left_turn-reads n a))
      (λ w x h. moved Q h.is refl (h.snd h.u (up h.u h.x h.fst)))

-- ---- right-associative operators

abbrev Behind_sum : Part → Language Part
Behind_sum a w x = (u : List Token) → IsSum u a → IsJoin (u ++ w) x

module _ (sum : Reader Part) (S : Reads sum IsSum) where
  alone_joined : (a : Part) → Completes (Behind_sum a) []
  alone_joined a = record { more = []; value = a; whole = λ u q. moved IsJoin (append-nil u) refl (IsJoin.sum_level q) }

  pub join-reads : (n : ℕ) → Reads (join_with sum n) IsJoin
  unfolding join_with operator_turn
  join-reads zero = tired-reads IsJoin join_begins
  join-reads (suc n) = weaken _ IsJoin (bind-reads _ _ IsSum Behind_sum S (λ a. when-reads _ _ _ (Behind_sum a)
      (given-reads (Behind_sum a) (takes_operator a) _ (alone_joined a) (λ ok.
      weaken _ (Behind_sum a) (eat-reads _ _ (an_operator level.Join) (λ s. made-reads (join_with sum n) (binary level.Join a s) IsJoin (join-reads n)))
      (λ w x h u q. moved IsJoin (after u h.is) h.after.is (IsJoin.join h.t q ok h.test h.after.of))))
      (weaken _ (Behind_sum a) (give-reads a) (λ w x h u q. moved IsJoin (after u h.0 ∙ append-nil u) h.1 (IsJoin.sum_level q)))))
      (λ w x h. moved IsJoin h.is refl (h.snd h.u h.fst))

-- ---- comparisons

abbrev Behind_join : Part → Language Part
Behind_join a w x = (u : List Token) → IsJoin u a → IsComparison (u ++ w) x

module _ (join : Reader Part) (J : Reads join IsJoin) where
  alone_compared : (a : Part) → Completes (Behind_join a) []
  alone_compared a = record { more = []; value = a; whole = λ u q. moved IsComparison (append-nil u) refl (IsComparison.join_level q) }

  pub comparison-reads : Reads (comparison_with join) IsComparison
  unfolding comparison_with compare_turn
  comparison-reads = weaken _ IsComparison (bind-reads _ _ IsJoin Behind_join J (λ a. when-reads _ _ _ (Behind_join a)
      (given-reads (Behind_join a) (takes_comparison a) _ (alone_compared a) (λ ok.
      weaken _ (Behind_join a) (eat-reads _ _ (an_operator level.Comparison) (λ s. made-reads join (binary level.Comparison a s) IsJoin J))
      (λ w x h u q. moved IsComparison (after u h.is) h.after.is (IsComparison.comparison h.t q ok h.test h.after.of))))
      (weaken _ (Behind_join a) (give-reads a) (λ w x h u q. moved IsComparison (after u h.0 ∙ append-nil u) h.1 (IsComparison.join_level q)))))
      (λ w x h. moved IsComparison h.is refl (h.snd h.u h.fst))

-- ---- a sign before an operand

module _ (form postfix : Reader Part) (F : Reads form IsForm) (P : Reads postfix IsPostfix) where
  pub unary-reads : (n : ℕ) → Reads (unary_with form postfix n) IsUnary
  unfolding unary_with
  unary-reads zero = tired-reads IsUnary unary_begins
  unary-reads (suc n) = when-reads _ _ _ IsUnary
      (weaken _ IsUnary (eat-reads _ _ (a_sign (codes "-")) (λ s. made-reads (unary_with form postfix n) (negated s) IsUnary (unary-reads n)))
      (λ w x h. moved IsUnary h.is h.after.is (IsUnary.negation h.t h.test h.after.of)))
      (when-reads _ _ _ IsUnary (weaken form IsUnary F (λ w x h. IsUnary.form h)) (weaken postfix IsUnary P (λ w x h. IsUnary.postfix h)))

-- ---- calls and fields

module _ (expr : Reader Part) (E : Reads expr IsExpr) (n : ℕ) where
  args_turn-reads : (es : List Expr) → Reads (args_turn expr es) (Grows IsSome es)
  unfolding args_turn
  args_turn-reads es = weaken _ (Grows IsSome es) (eat-reads _ _ (a_sign (codes ",")) (λ s. made-reads expr (λ (e : Part). es ++ e.expr ∷ []) IsExpr E))
      (λ w x h u q. moved IsSome (after u h.is) h.after.is (IsSome.next_arg h.t q h.test h.after.of))

  some-reads : Reads (some_with expr n) IsSome
  unfolding some_with
  some-reads = weaken _ IsSome (bind-reads _ _ IsExpr (λ e. Grows IsSome (e.expr ∷ [])) E (λ e. many-reads comma (args_turn expr) IsSome args_turn-reads n (e.expr ∷ [])))
      (λ w x h. moved IsSome h.is refl (h.snd h.u (IsSome.first_arg h.fst)))

  pub args-reads : (close : List ℕ) → Reads (args_with close expr n) IsArgs
  unfolding args_with
  args-reads close = when-reads _ _ _ IsArgs
      (weaken _ IsArgs (give-reads []) (λ w x h. moved IsArgs h.0 h.1 IsArgs.no_args))
      (weaken _ IsArgs some-reads (λ w x h. IsArgs.some_args h))

  call-reads : (f : Part) → Reads (call_with expr n f) (Grows IsPostfix f)
  unfolding call_with
  call-reads f = given-reads (Grows IsPostfix f) (takes_call f) _ (grows-begins IsPostfix f) (λ ok.
      weaken _ (Grows IsPostfix f) (eat-reads _ _ (a_sign (codes "(")) (λ o. bind-reads _ _ IsArgs (λ args. Close (codes ")") (called f args)) (args-reads (codes ")")) (λ args. eat-reads _ _ (a_sign (codes ")")) (λ c. give-reads (called f args c)))))
      (λ w x h u q. let i = h.after in moved IsPostfix (after u (h.is ∙ cons h.t (closed i))) i.snd.after.1 (IsPostfix.call h.t i.snd.t q ok h.test i.fst i.snd.test)))

  field-reads : (e : Part) → Reads (read_field e) (Grows IsPostfix e)
  unfolding read_field
  field-reads e = weaken _ (Grows IsPostfix e) (eat-reads _ _ (a_sign (codes ".")) (λ d. eat-reads _ _ a_name (λ l. give-reads _)))
      (λ w x h u q. let i = h.after in moved IsPostfix (after u (h.is ∙ cons h.t (i.is ∙ cons i.t i.after.0))) i.after.1 (IsPostfix.project h.t i.t q h.test i.test))

  postfix_turn-reads : (e : Part) → Reads (postfix_turn expr n e) (Grows IsPostfix e)
  unfolding postfix_turn
  postfix_turn-reads e = when-reads _ _ _ (Grows IsPostfix e) (call-reads e) (field-reads e)

  pub postfix-reads : (primary : Reader Part) → Reads primary IsPrimary → Reads (postfix_with primary expr n) IsPostfix
  unfolding postfix_with
  postfix-reads primary P = weaken _ IsPostfix (bind-reads _ _ IsPrimary (Grows IsPostfix) P (λ e. many-reads postfix_next (postfix_turn expr n) IsPostfix postfix_turn-reads n e))
      (λ w x h. moved IsPostfix h.is refl (h.snd h.u (IsPostfix.primary h.fst)))

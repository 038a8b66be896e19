-- The turns of the loop over a block's statements.
use Rattle.std.proofs.Common.{◌≡◌, ℕ, suc, ◌+◌, ◌-◌, ◌<◌, ◌≤◌, true, false, List, [], ◌∷◌, ◌++◌, Ok, Err, sym, ap, ◌∙◌, arith}
use Rattle.std.specs.Prelude.{codes}
use Rattle.lk_ast.specs.declared.token.Token.{Token}
use Rattle.lk_read.specs.declared.stop.Stop.{Stop}
use Rattle.lk_read.specs.declared.stop.Stop.TheVariants.{Spent}
use Rattle.lk_read.specs.Kinds.{is_sign, is_word}
use Rattle.lk_read.specs.Reader.{Reading, Reader, give, tired, bind, peek, when, one, eat}
use Rattle.lk_read.specs.Gives.{StopsAs}
use Rattle.lk_read.proofs.Laws.{when-true, when-false, bind-at_ok, eat-at_ok}
use Rattle.lk_read.proofs.Loops.{StopsAs-bind, StopsAs-at}
use Rattle.lk_parts.specs.Parts.{plain_statement}
use Rattle.lk_grammar.specs.Reading.{let_with, statements_with}
use Rattle.lk_parts.specs.declared.part.Part.{Part}
use Rattle.lk_parts.specs.declared.part.Statement.{Statement}

abbrev after_let : Reader Part → ℕ → List Statement → Statement → Reader (List Statement × Part)
after_let expr n ss s = statements_with expr n (ss ++ s ∷ [])

abbrev after_end : Reader Part → ℕ → List Statement → Part → Token → Reader (List Statement × Part)
after_end expr n ss e t = statements_with expr n (ss ++ plain_statement e ∷ [])

abbrev after_expr : Reader Part → ℕ → List Statement → Part → Reader (List Statement × Part)
after_expr expr n ss e = when (is_sign (codes ";")) (eat (is_sign (codes ";")) (after_end expr n ss e)) (give (ss, e))

module _ (expr : Reader Part) (n i : ℕ) (ss : List Statement) (ts : List Token) (total : Reading (List Statement × Part)) where
  one_more : i < n → statements_with expr (n - i) ss ts ≡ total → statements_with expr (suc (n - (i + 1))) ss ts ≡ total
  one_more lt h = let k : suc (n - (i + 1)) ≡ n - i = omega arith in ap (λ (m : ℕ). statements_with expr m ss ts) k ∙ h

  with_let : i < n → peek (is_word (codes "var")) ts ≡ true → statements_with expr (n - i) ss ts ≡ total → bind (let_with expr) (after_let expr (n - (i + 1)) ss) ts ≡ total
  unfolding statements_with
  with_let lt p h = sym (when-true (is_word (codes "var")) (bind (let_with expr) (after_let expr (n - (i + 1)) ss)) (bind expr (after_expr expr (n - (i + 1)) ss)) ts p) ∙ one_more lt h

  with_expr : i < n → peek (is_word (codes "var")) ts ≡ false → statements_with expr (n - i) ss ts ≡ total → bind expr (after_expr expr (n - (i + 1)) ss) ts ≡ total
  unfolding statements_with
  with_expr lt p h = sym (when-false (is_word (codes "var")) (bind (let_with expr) (after_let expr (n - (i + 1)) ss)) (bind expr (after_expr expr (n - (i + 1)) ss)) ts p) ∙ one_more lt h

  pub let_goes : (st : Statement) (rest : List Token) → i < n → peek (is_word (codes "var")) ts ≡ true → let_with expr ts ≡ Ok (st, rest) → statements_with expr (n - i) ss ts ≡ total → statements_with expr (n - (i + 1)) (ss ++ st ∷ []) rest ≡ total
  let_goes st rest lt p e h = sym (bind-at_ok (let_with expr) (after_let expr (n - (i + 1)) ss) ts rest st e) ∙ with_let lt p h

  pub let_fails : (x : Stop) → i < n → peek (is_word (codes "var")) ts ≡ true → StopsAs x (let_with expr ts) → statements_with expr (n - i) ss ts ≡ total → StopsAs x total
  let_fails x lt p e h = StopsAs-at x (bind (let_with expr) (after_let expr (n - (i + 1)) ss) ts) total (with_let lt p h) (StopsAs-bind x (let_with expr) (after_let expr (n - (i + 1)) ss) ts e)

  pub expr_fails : (x : Stop) → i < n → peek (is_word (codes "var")) ts ≡ false → StopsAs x (expr ts) → statements_with expr (n - i) ss ts ≡ total → StopsAs x total
  expr_fails x lt p e h = StopsAs-at x (bind expr (after_expr expr (n - (i + 1)) ss) ts) total (with_expr lt p h) (StopsAs-bind x expr (after_expr expr (n - (i + 1)) ss) ts e)

  pub last_read : (e : Part) (rest : List Token) → i < n → peek (is_word (codes "var")) ts ≡ false → expr ts ≡ Ok (e, rest) → peek (is_sign (codes ";")) rest ≡ false → statements_with expr (n - i) ss ts ≡ total → total ≡ Ok ((ss, e), rest)
  unfolding give
  last_read e rest lt p q r h = sym (with_expr lt p h) ∙ bind-at_ok expr (after_expr expr (n - (i + 1)) ss) ts rest e q ∙ when-false (is_sign (codes ";")) (eat (is_sign (codes ";")) (after_end expr (n - (i + 1)) ss e)) (give (ss, e)) rest r

  pub plain_goes : (e : Part) (s : Token) (mid rest : List Token) → i < n → peek (is_word (codes "var")) ts ≡ false → expr ts ≡ Ok (e, mid) → peek (is_sign (codes ";")) mid ≡ true → one (is_sign (codes ";")) mid ≡ Ok (s, rest) → statements_with expr (n - i) ss ts ≡ total → statements_with expr (n - (i + 1)) (ss ++ plain_statement e ∷ []) rest ≡ total
  plain_goes e s mid rest lt p q r o h = sym (sym (with_expr lt p h) ∙ bind-at_ok expr (after_expr expr (n - (i + 1)) ss) ts mid e q ∙ when-true (is_sign (codes ";")) (eat (is_sign (codes ";")) (after_end expr (n - (i + 1)) ss e)) (give (ss, e)) mid r ∙ eat-at_ok (is_sign (codes ";")) (after_end expr (n - (i + 1)) ss e) mid rest s o)

  pub turns_spent : n ≤ i → statements_with expr (n - i) ss ts ≡ total → total ≡ Err Spent
  unfolding statements_with tired
  turns_spent le h = let k : n - i ≡ 0 = omega arith in sym h ∙ ap (λ (m : ℕ). statements_with expr m ss ts) k

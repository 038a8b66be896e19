-- What the readers of what stands alone or between brackets find, and where they stop.
use Rattle.std.proofs.Common.{◌≡◌, ℕ, zero, suc, true, List, [], ◌∷◌, ◌++◌, refl, sym, ap, ◌∙◌, append_assoc}
use Rattle.std.specs.Prelude.{codes}
use Rattle.std.proofs.lemmas.List.{append-nil}
use Rattle.lk_ast.specs.declared.expression.PartExpr.{PartExpr}
use Rattle.lk_ast.specs.declared.token.Token.{Token}
use Rattle.lk_ast.specs.declared.token.TokenKind.TheVariants.{Sign}
use Rattle.lk_read.specs.Exact.{Language}
use Rattle.lk_read.specs.Kinds.{IsSign, IsAnyTag, word_of}
use Rattle.lk_read.specs.Reader.{Reader}
use Rattle.lk_read.proofs.KindLaws.{some_token, a_sign, a_word, a_name, any_tag}
use Rattle.lk_read.proofs.Laws.{Completes, Reads, Grows, Then, weaken, bind-reads, when-reads, given-reads, give-reads, stop-reads, tired-reads, many-reads, eat-reads, made-reads}
use Rattle.lk_read.proofs.Moves.{moved, cons, after, Close, closed}
use Rattle.lk_rows.specs.Reading.{comma}
use Rattle.lk_grammar.specs.Expressions.{IsExpr, IsPrimary, IsArgs, IsParts, IsPart, IsBlock, IsStatements}
use Rattle.lk_parts.specs.Parts.{literal, named, label_of, is_bare_name, wrapped, part_of, record_of, extended, list_of, bare_tag, unit_tag, tagged, prefixed, plain_statement, braced}
use Rattle.lk_grammar.specs.Reading.{tag_body_with, tag_with, part_with, parts_turn, parts_with, record_end_with, record_with, round_body_with, round_with, list_with, prefix_with, read_literal, read_name, let_with, statements_with, block_with, primary_with}
use Rattle.lk_parts.specs.declared.part.Part.{Part}
use Rattle.lk_parts.specs.declared.part.Statement.{Statement}
use Rattle.lk_grammar.proofs.BareNames.{bare_name}
use Rattle.lk_grammar.proofs.SoundLevels.{primary_begins, expr_begins, args-reads}
use Rattle.lk_parts.proofs.TokenTests.{a_literal, a_prefix}

-- what stands behind a tag, behind a tag and `(`, and behind `(`
abbrev Behind_tag : Token → Language Part
Behind_tag t w x = IsAnyTag t → IsPrimary (t ∷ w) x

abbrev Behind_tag_open : Token → Token → Language Part
Behind_tag_open t o w x = IsAnyTag t → IsSign (codes "(") o → IsPrimary (t ∷ o ∷ w) x

abbrev Behind_open : Token → Language Part
Behind_open o w x = IsSign (codes "(") o → IsPrimary (o ∷ w) x

-- behind `(` and an expression, and behind `(` and the parts of a record
abbrev Behind_expr : Token → Part → Language Part
Behind_expr o e w x = (u : List Token) → IsSign (codes "(") o → IsExpr u e → IsPrimary (o ∷ (u ++ w)) x

abbrev Behind_parts : Token → List PartExpr → Language Part
Behind_parts o parts w x = (u : List Token) → IsSign (codes "(") o → IsParts u parts → IsPrimary (o ∷ (u ++ w)) x

abbrev close_token : Token
close_token = some_token (Sign (codes ")"))

module _ (expr : Reader Part) (E : Reads expr IsExpr) where
  tag_body-reads : (t : Token) → Reads (tag_body_with expr t) (Behind_tag t)
  unfolding tag_body_with
  tag_body-reads t = weaken _ (Behind_tag t) (eat-reads _ (Behind_tag_open t) (a_sign (codes "(")) (λ o. when-reads _ _ _ (Behind_tag_open t o)
      (weaken _ (Behind_tag_open t o) (eat-reads _ _ (a_sign (codes ")")) (λ c. give-reads (unit_tag t c)))
      (λ w x h p q. moved IsPrimary (cons t (cons o (h.is ∙ cons h.t h.after.0))) h.after.1 (IsPrimary.tag_unit t o h.t p q h.test)))
      (weaken _ (Behind_tag_open t o) (bind-reads _ _ IsExpr (λ e. Close (codes ")") (tagged t e)) E (λ e. eat-reads _ _ (a_sign (codes ")")) (λ c. give-reads (tagged t e c))))
      (λ w x h p q. moved IsPrimary (cons t (cons o (closed h))) h.snd.after.1 (IsPrimary.tag_of t o h.snd.t p q h.fst h.snd.test)))))
      (λ w x h p. moved IsPrimary (cons t h.is) refl (h.after p h.test))

  tag-reads : Reads (tag_with expr) IsPrimary
  unfolding tag_with
  tag-reads = weaken _ IsPrimary (eat-reads _ Behind_tag any_tag (λ t. when-reads _ _ _ (Behind_tag t) (tag_body-reads t)
      (weaken _ (Behind_tag t) (give-reads (bare_tag t)) (λ w x h p. moved IsPrimary (cons t h.0) h.1 (IsPrimary.tag t p)))))
      (λ w x h. moved IsPrimary h.is refl (h.after h.test))

  -- ---- records

  pub part-reads : Reads (part_with expr) IsPart
  unfolding part_with
  part-reads = weaken _ IsPart (eat-reads _ _ a_name (λ l. eat-reads _ _ (a_sign (codes "=")) (λ q. made-reads expr (part_of (word_of l)) IsExpr E)))
      (λ w x h. let i = h.after in moved IsPart (h.is ∙ cons h.t i.is) i.after.is (IsPart.set h.t i.t h.test i.test i.after.of))

  pub parts_turn-reads : (parts : List PartExpr) → Reads (parts_turn expr parts) (Grows IsParts parts)
  unfolding parts_turn
  parts_turn-reads parts = weaken _ (Grows IsParts parts) (eat-reads _ _ (a_sign (codes ",")) (λ s. made-reads (part_with expr) (λ (part : PartExpr). parts ++ part ∷ []) IsPart part-reads))
      (λ w x h u q. moved IsParts (after u h.is) h.after.is (IsParts.next_part h.t q h.test h.after.of))

  pub parts-reads : (n : ℕ) → Reads (parts_with expr n) IsParts
  unfolding parts_with
  parts-reads n = weaken _ IsParts (bind-reads _ _ IsPart (λ part. Grows IsParts (part ∷ [])) part-reads (λ part. many-reads comma (parts_turn expr) IsParts parts_turn-reads n (part ∷ [])))
      (λ w x h. moved IsParts h.is refl (h.snd h.u (IsParts.first_part h.fst)))

  record_end-reads : (o : Token) (parts : List PartExpr) → Reads (record_end_with expr o parts) (Behind_parts o parts)
  unfolding record_end_with
  record_end-reads o parts = when-reads _ _ _ (Behind_parts o parts)
      (weaken _ (Behind_parts o parts) (eat-reads _ _ (a_sign (codes "|")) (λ b. bind-reads _ _ IsExpr (λ r. Close (codes ")") (extended o parts r)) E (λ r. eat-reads _ _ (a_sign (codes ")")) (λ c. give-reads (extended o parts r c)))))
      (λ w x h u p q. let i = h.after in moved IsPrimary (cons o (after u (h.is ∙ cons h.t (closed i)))) i.snd.after.1 (IsPrimary.extension o h.t i.snd.t p q h.test i.fst i.snd.test)))
      (weaken _ (Behind_parts o parts) (eat-reads _ _ (a_sign (codes ")")) (λ c. give-reads (record_of o parts c)))
      (λ w x h u p q. moved IsPrimary (cons o (after u (h.is ∙ cons h.t h.after.0))) h.after.1 (IsPrimary.fields o h.t p q h.test)))

  -- the first part of a record, whose label was read as an expression
  first_part : (l e : Part) {u v : List Token} (q : Token) → IsExpr u l → is_bare_name l ≡ true → IsSign (codes "=") q → IsExpr v e → IsParts (u ++ q ∷ v) (part_of (label_of l) e ∷ [])
  unfolding word_of
  first_part l e {u = u} {v = v} q d bare h k =
      let b = bare_name d bare in
      moved IsParts (ap (λ (z : List Token). z ++ q ∷ v) b.is) (ap (λ (z : Part). part_of (label_of z) e ∷ []) (sym b.makes)) (IsParts.first_part (IsPart.set b.l q b.name h k))

  paren_completes : (o : Token) (l : Part) → Completes (Behind_expr o l) []
  paren_completes o l = record { more = close_token ∷ []; value = wrapped o l close_token; whole = λ u p q. IsPrimary.paren o close_token p q refl }

  record-reads : (n : ℕ) (o : Token) (l : Part) → Reads (record_with expr n o l) (Behind_expr o l)
  unfolding record_with
  record-reads n o l = given-reads (Behind_expr o l) (is_bare_name l) _ (paren_completes o l) (λ bare.
      weaken _ (Behind_expr o l) (eat-reads _ _ (a_sign (codes "=")) (λ s. bind-reads _ _ IsExpr (λ e. Then (Grows IsParts (part_of (label_of l) e ∷ [])) (Behind_parts o)) E (λ e. bind-reads _ _ (Grows IsParts (part_of (label_of l) e ∷ [])) (Behind_parts o) (many-reads comma (parts_turn expr) IsParts parts_turn-reads n (part_of (label_of l) e ∷ [])) (record_end-reads o))))
      (λ w x h u p q.
      let i = h.after in
      let j = i.snd in
      let tokens : u ++ w ≡ ((u ++ h.t ∷ i.u) ++ j.u) ++ j.v = after u (h.is ∙ cons h.t (i.is ∙ after i.u j.is)) ∙ sym (append_assoc u (h.t ∷ i.u) (j.u ++ j.v)) ∙ sym (append_assoc (u ++ h.t ∷ i.u) j.u j.v) in
      moved IsPrimary (cons o tokens) refl (j.snd ((u ++ h.t ∷ i.u) ++ j.u) p (j.fst (u ++ h.t ∷ i.u) (first_part l i.x h.t q bare h.test i.fst)))))

  round_body-reads : (n : ℕ) (o : Token) → Reads (round_body_with expr n o) (Behind_open o)
  unfolding round_body_with
  round_body-reads n o = weaken _ (Behind_open o) (bind-reads _ _ IsExpr (Behind_expr o) E (λ e. when-reads _ _ _ (Behind_expr o e) (record-reads n o e)
      (weaken _ (Behind_expr o e) (eat-reads _ _ (a_sign (codes ")")) (λ c. give-reads (wrapped o e c)))
      (λ w x h u p q. moved IsPrimary (cons o (after u (h.is ∙ cons h.t h.after.0))) h.after.1 (IsPrimary.paren o h.t p q h.test)))))
      (λ w x h p. moved IsPrimary (cons o h.is) refl (h.snd h.u p h.fst))

  round-reads : (n : ℕ) → Reads (round_with expr n) IsPrimary
  unfolding round_with
  round-reads n = weaken _ IsPrimary (eat-reads _ Behind_open (a_sign (codes "(")) (λ o. when-reads _ _ _ (Behind_open o)
      (weaken _ (Behind_open o) (eat-reads _ _ (a_sign (codes ")")) (λ c. give-reads (record_of o [] c))) (λ w x h p. moved IsPrimary (cons o (h.is ∙ cons h.t h.after.0)) h.after.1 (IsPrimary.unit o h.t p h.test)))
      (round_body-reads n o)))
      (λ w x h. moved IsPrimary h.is refl (h.after h.test))

  list-reads : (n : ℕ) → Reads (list_with expr n) IsPrimary
  unfolding list_with
  list-reads n = weaken _ IsPrimary (eat-reads _ _ (a_sign (codes "[")) (λ o. bind-reads _ _ IsArgs (λ items. Close (codes "]") (list_of o items)) (args-reads expr E n (codes "]")) (λ items. eat-reads _ _ (a_sign (codes "]")) (λ c. give-reads (list_of o items c)))))
      (λ w x h. let i = h.after in moved IsPrimary (h.is ∙ cons h.t (closed i)) i.snd.after.1 (IsPrimary.list h.t i.snd.t h.test i.fst i.snd.test))

  prefix-reads : Reads (prefix_with expr) IsPrimary
  unfolding prefix_with
  prefix-reads = weaken _ IsPrimary (eat-reads _ _ a_prefix (λ k. eat-reads _ _ (a_sign (codes "(")) (λ o. bind-reads _ _ IsExpr (λ e. Close (codes ")") (prefixed k e)) E (λ e. eat-reads _ _ (a_sign (codes ")")) (λ c. give-reads (prefixed k e c))))))
      (λ w x g. let h = g.after in let i = h.after in moved IsPrimary (g.is ∙ cons g.t (h.is ∙ cons h.t (closed i))) i.snd.after.1 (IsPrimary.prefix g.t h.t i.snd.t g.test h.test i.fst i.snd.test))

literal-reads : Reads read_literal IsPrimary
unfolding read_literal
literal-reads = weaken _ IsPrimary (eat-reads _ _ a_literal (λ t. give-reads (literal t))) (λ w x h. moved IsPrimary (h.is ∙ cons h.t h.after.0) h.after.1 (IsPrimary.literal_token h.t h.test))

name-reads : Reads read_name IsPrimary
unfolding read_name
name-reads = weaken _ IsPrimary (eat-reads _ _ a_name (λ t. give-reads (named t))) (λ w x h. moved IsPrimary (h.is ∙ cons h.t h.after.0) h.after.1 (IsPrimary.name h.t h.test))

-- ---- blocks

-- the statements and the last expression of a block
pub record IsBody (w : List Token) (body : List Statement × Part) : Type 0 where
  pub u : List Token
  pub v : List Token
  pub is : w ≡ u ++ v
  pub statements : IsStatements u body.0
  pub last : IsExpr v body.1

-- one more statement
abbrev Adds : Language Statement
Adds w s = (u : List Token) (ss : List Statement) → IsStatements u ss → IsStatements (u ++ w) (ss ++ s ∷ [])

abbrev Rest : List Statement → Language (List Statement × Part)
Rest ss w body = (u : List Token) → IsStatements u ss → IsBody (u ++ w) body

-- a statement that is an expression, or the last expression
abbrev Rest_behind : List Statement → Part → Language (List Statement × Part)
Rest_behind ss e w body = (u v : List Token) → IsStatements u ss → IsExpr v e → IsBody (u ++ (v ++ w)) body

rest-begins : (ss : List Statement) → Completes (Rest ss) []
rest-begins ss = let b = expr_begins in record { more = b.more; value = (ss, b.value); whole = λ u q. record { u = u; v = b.more; is = refl; statements = q; last = b.whole } }

module _ (expr : Reader Part) (E : Reads expr IsExpr) where
  let-reads : Reads (let_with expr) Adds
  unfolding let_with
  let-reads = weaken _ Adds (eat-reads _ _ (a_word (codes "var")) (λ k. eat-reads _ _ a_name (λ x. eat-reads _ _ (a_sign (codes "=")) (λ q. bind-reads _ _ IsExpr (λ e. Close (codes ";") (λ s. _)) E (λ e. eat-reads _ _ (a_sign (codes ";")) (λ s. give-reads _))))))
      (λ w s f u ss q.
      let g = f.after in
      let h = g.after in
      let i = h.after in
      moved IsStatements (after u (f.is ∙ cons f.t (g.is ∙ cons g.t (h.is ∙ cons h.t (closed i))))) (ap (λ (z : Statement). ss ++ z ∷ []) i.snd.after.1) (IsStatements.let_in f.t g.t h.t i.snd.t q f.test g.test h.test i.fst i.snd.test))

  pub statements-reads : (n : ℕ) (ss : List Statement) → Reads (statements_with expr n ss) (Rest ss)
  unfolding statements_with
  statements-reads zero ss = tired-reads (Rest ss) (rest-begins ss)
  statements-reads (suc n) ss = when-reads _ _ _ (Rest ss)
      (weaken _ (Rest ss) (bind-reads _ _ Adds (λ s. Rest (ss ++ s ∷ [])) let-reads (λ s. statements-reads n (ss ++ s ∷ [])))
      (λ w x h u q. moved IsBody (after u h.is ∙ sym (append_assoc u h.u h.v)) refl (h.snd (u ++ h.u) (h.fst u ss q))))
      (weaken _ (Rest ss)
      (bind-reads _ _ IsExpr (Rest_behind ss) E (λ e. when-reads _ _ _ (Rest_behind ss e)
      (weaken _ (Rest_behind ss e) (eat-reads _ _ (a_sign (codes ";")) (λ s. statements-reads n (ss ++ plain_statement e ∷ [])))
      (λ w x h u v q r. moved IsBody (after u (after v h.is ∙ sym (append_assoc v (h.t ∷ []) h.v)) ∙ sym (append_assoc u (v ++ h.t ∷ []) h.v)) refl (h.after (u ++ (v ++ h.t ∷ [])) (IsStatements.plain h.t q r h.test))))
      (weaken _ (Rest_behind ss e) (give-reads (ss, e))
      (λ w x h u v q r. moved IsBody (after u (after v h.0 ∙ append-nil v)) h.1 (record { u = u; v = v; is = refl; statements = q; last = r })))))
      (λ w x h u q. moved IsBody (after u h.is) refl (h.snd u h.u q h.fst)))

  pub block-reads : (n : ℕ) → Reads (block_with expr n) IsBlock
  unfolding block_with
  block-reads n = weaken _ IsBlock
      (eat-reads _ _ (a_sign (codes "{")) (λ o. bind-reads _ _ IsBody (λ body. Close (codes "}") (braced o body.0 body.1))
      (weaken _ IsBody (statements-reads n []) (λ w x h. h [] IsStatements.nil)) (λ body. eat-reads _ _ (a_sign (codes "}")) (λ c. give-reads (braced o body.0 body.1 c)))))
      (λ w x h.
      let i = h.after in
      let b = i.fst in
      moved IsBlock (h.is ∙ cons h.t (closed i ∙ ap (λ (z : List Token). z ++ i.snd.t ∷ []) b.is ∙ append_assoc b.u b.v (i.snd.t ∷ []))) i.snd.after.1 (IsBlock.braces h.t i.snd.t h.test b.statements b.last i.snd.test))

  pub primary-reads : (n : ℕ) → Reads (primary_with expr n) IsPrimary
  unfolding primary_with
  primary-reads n = when-reads _ _ _ IsPrimary literal-reads
      (when-reads _ _ _ IsPrimary name-reads
      (when-reads _ _ _ IsPrimary (tag-reads expr E)
      (when-reads _ _ _ IsPrimary (round-reads expr E n)
      (when-reads _ _ _ IsPrimary (list-reads expr E n)
      (when-reads _ _ _ IsPrimary (weaken _ IsPrimary (block-reads n) (λ w x h. IsPrimary.block h))
      (when-reads _ _ _ IsPrimary (prefix-reads expr E) (stop-reads IsPrimary primary_begins)))))))

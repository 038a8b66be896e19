-- What the grammar derives is read, unless the room is too small: what stands alone or between brackets.
use Rattle.std.proofs.Common.{◌≡◌, ℕ, zero, suc, Bool, true, false, List, [], ◌∷◌, ◌++◌, Ok, refl, sym, ap, ◌∙◌, append_assoc}
use Rattle.std.specs.Prelude.{codes}
use Rattle.lk_ast.specs.declared.expression.Expr.{Expr}
use Rattle.lk_ast.specs.declared.expression.PartExpr.{PartExpr}
use Rattle.lk_ast.specs.declared.token.Token.{Token}
use Rattle.lk_read.specs.Keywords.{is_keyword}
use Rattle.lk_read.specs.Kinds.{IsSign, IsWord, IsName, IsAnyTag, is_sign, is_word, is_name, is_any_tag, word_of}
use Rattle.lk_read.specs.Reader.{Reading, Reader, bind, peek, many}
use Rattle.lk_read.proofs.Below.{◌⊑◌, bind-finds, eat-finds, give-finds, tired-finds, given-finds, when-yes, when-no, many-ends, many-goes, bind-many-goes}
use Rattle.lk_read.proofs.KindLaws.{sign_sign, word_word}
use Rattle.lk_read.proofs.Moves.{along, cons, here}
use Rattle.lk_rows.specs.Reading.{comma}
use Rattle.lk_grammar.specs.Expressions.{IsExpr, IsPostfix, IsPrimary, IsParts, IsPart, IsBlock}
use Rattle.lk_parts.specs.Operators.{level_of_sign}
use Rattle.lk_parts.specs.Parts.{literal, named, wrapped, part_of, record_of, extended, list_of, bare_tag, unit_tag, tagged, prefixed, var_statement, plain_statement, braced}
use Rattle.lk_grammar.specs.Reading.{tag_body_with, tag_with, part_with, parts_turn, parts_with, record_end_with, record_with, round_body_with, round_with, list_with, prefix_with, read_literal, read_name, let_with, statements_with, block_with, primary_with, expr_at}
use Rattle.lk_parts.specs.Starts.{start_of_keyword, start_of_sign, begins}
use Rattle.lk_parts.specs.declared.operators.Level.TheVariants as level
use Rattle.lk_parts.specs.declared.part.Part.{Part}
use Rattle.lk_parts.specs.declared.part.Statement.{Statement}
use Rattle.lk_parts.specs.declared.starts.Start.TheVariants as start
use Rattle.lk_grammar.proofs.Follows.{Shut, shut_sign}
use Rattle.lk_parts.proofs.StartLaws.{begins_start, sign_start, name_start, tag_start, not_begins, not_name, not_tag, not_sign, is_expr_start, Begins, first_not_sign, first_not_word, regrouped}
use Rattle.lk_grammar.proofs.Beginnings.{expr_begins}
use Rattle.lk_grammar.proofs.CompleteLevels.{UNARY, PRODUCT, COMPARISON, AND, Whole, Primary_finds, Args_finds, Closes, closes_shut, comma_shut, left_up, whole, and_whole, product_whole, unary_whole, join_up, comparison_up, postfix_finds, primary_up}

abbrev pub PRIMARY : ℕ → Reader Part
PRIMARY n = primary_with (expr_at n) n

-- ---- closing signs

pub closes_round : Closes (codes ")")
unfolding level_of_sign start_of_sign
closes_round = record { level = refl; round = refl; dot = refl; comma = refl; itself = refl; start = refl }

pub closes_square : Closes (codes "]")
unfolding level_of_sign start_of_sign
closes_square = record { level = refl; round = refl; dot = refl; comma = refl; itself = refl; start = refl }

pub closes_brace : Closes (codes "}")
unfolding level_of_sign start_of_sign
closes_brace = record { level = refl; round = refl; dot = refl; comma = refl; itself = refl; start = refl }

pub round_shut : (c : Token) (z : List Token) → IsSign (codes ")") c → Shut (c ∷ z)
round_shut c z h = closes_shut (codes ")") c z closes_round h

pub brace_shut : (c : Token) (z : List Token) → IsSign (codes "}") c → Shut (c ∷ z)
brace_shut c z h = closes_shut (codes "}") c z closes_brace h

pub end_shut : (c : Token) (z : List Token) → IsSign (codes ";") c → Shut (c ∷ z)
unfolding level_of_sign
end_shut c z h = shut_sign (codes ";") c z refl refl refl h

bar_shut : (c : Token) (z : List Token) → IsSign (codes "|") c → Shut (c ∷ z)
unfolding level_of_sign
bar_shut c z h = shut_sign (codes "|") c z refl refl refl h

equals_shut : (c : Token) (z : List Token) → IsSign (codes "=") c → Shut (c ∷ z)
unfolding level_of_sign
equals_shut c z h = shut_sign (codes "=") c z refl refl refl h

-- an expression doesn't begin with what closes brackets, nor with `var`
pub not_closed : {w : List Token} {e : Part} → IsExpr w e → (z : List Token) → peek (is_sign (codes ")")) (w ++ z) ≡ false
not_closed {w = w} d z = first_not_sign is_expr_start (codes ")") (w ++ z) (expr_begins d z) closes_round.start

not_var : {w : List Token} {e : Part} → IsExpr w e → (z : List Token) → peek (is_word (codes "var")) (w ++ z) ≡ false
unfolding is_keyword start_of_keyword
not_var {w = w} d z = first_not_word is_expr_start (codes "var") (w ++ z) (expr_begins d z) refl

-- ---- one token

pub literal_finds : (t : Token) → begins start.Literal t ≡ true → Primary_finds (t ∷ []) (literal t)
unfolding primary_with read_literal
literal_finds t h n z un = when-yes _ _ _ _ h (eat-finds _ _ _ _ h (give-finds _ _))

pub name_finds : (t : Token) → IsName t → Primary_finds (t ∷ []) (named t)
unfolding primary_with read_name
name_finds t h n z un = when-no _ _ _ _ (not_begins start.Literal t start.Name (name_start t h) refl) (when-yes _ _ _ _ h (eat-finds _ _ _ _ h (give-finds _ _)))

-- ---- tags

tag_first : (t : Token) (n : ℕ) (y : List Token) (v : Reading Part) → IsAnyTag t → tag_with (expr_at n) (t ∷ y) ⊑ v → PRIMARY n (t ∷ y) ⊑ v
unfolding primary_with
tag_first t n y v h k = let s = tag_start t h in
    when-no _ _ _ _ (not_begins start.Literal t start.Tag s refl) (when-no _ _ _ _ (not_name t start.Tag s refl) (when-yes _ _ _ _ h k))

pub bare_tag_finds : (t : Token) → IsAnyTag t → Primary_finds (t ∷ []) (bare_tag t)
unfolding tag_with
bare_tag_finds t h n z un = tag_first t n z (Ok (bare_tag t, z)) h (eat-finds _ _ _ _ h (when-no _ _ _ _ (un refl) (give-finds _ _)))

pub unit_tag_finds : (t o c : Token) → IsAnyTag t → IsSign (codes "(") o → IsSign (codes ")") c → Primary_finds (t ∷ o ∷ c ∷ []) (unit_tag t c)
unfolding tag_with tag_body_with
unit_tag_finds t o c h k i n z un = let opens = here (codes "(") o k refl in let closes = here (codes ")") c i refl in
    tag_first t n (o ∷ c ∷ z) (Ok (unit_tag t c, z)) h (eat-finds _ _ _ _ h (when-yes _ _ _ _ opens (eat-finds _ _ _ _ opens
    (when-yes _ _ _ _ closes (eat-finds _ _ _ _ closes (give-finds _ _))))))

pub tagged_finds : (t o c : Token) (w : List Token) (e : Part) → IsAnyTag t → IsSign (codes "(") o → IsExpr w e → Whole w e → IsSign (codes ")") c → Primary_finds (t ∷ o ∷ (w ++ c ∷ [])) (tagged t e c)
unfolding tag_with tag_body_with
tagged_finds t o c w e h k d f i n z un = let opens = here (codes "(") o k refl in
    along (PRIMARY n) _ (cons t (cons o (sym (append_assoc w (c ∷ []) z))))
    (tag_first t n (o ∷ (w ++ c ∷ z)) (Ok (tagged t e c, z)) h (eat-finds _ _ _ _ h (when-yes _ _ _ _ opens (eat-finds _ _ _ _ opens
    (when-no _ _ _ _ (not_closed d (c ∷ z)) (bind-finds _ _ _ (f n (c ∷ z) (round_shut c z i 1 e)) (eat-finds _ _ _ _ (here (codes ")") c i refl) (give-finds _ _))))))))

-- ---- behind `(`

round_first : (o : Token) (n : ℕ) (y : List Token) (v : Reading Part) → IsSign (codes "(") o → round_with (expr_at n) n (o ∷ y) ⊑ v → PRIMARY n (o ∷ y) ⊑ v
unfolding primary_with start_of_sign
round_first o n y v h k = let s = sign_start (codes "(") o h in
    when-no _ _ _ _ (not_begins start.Literal o start.Round s refl) (when-no _ _ _ _ (not_name o start.Round s refl) (when-no _ _ _ _ (not_tag o start.Round s refl)
    (when-yes _ _ _ _ (here (codes "(") o h refl) k)))

pub unit_finds : (o c : Token) → IsSign (codes "(") o → IsSign (codes ")") c → Primary_finds (o ∷ c ∷ []) (record_of o [] c)
unfolding round_with
unit_finds o c h k n z un = let closes = here (codes ")") c k refl in
    round_first o n (c ∷ z) (Ok (record_of o [] c, z)) h (eat-finds _ _ _ _ (here (codes "(") o h refl) (when-yes _ _ _ _ closes (eat-finds _ _ _ _ closes (give-finds _ _))))

pub paren_finds : (o c : Token) (w : List Token) (e : Part) → IsSign (codes "(") o → IsExpr w e → Whole w e → IsSign (codes ")") c → Primary_finds (o ∷ (w ++ c ∷ [])) (wrapped o e c)
unfolding round_with round_body_with
paren_finds o c w e h d f k n z un = along (PRIMARY n) _ (cons o (sym (append_assoc w (c ∷ []) z)))
    (round_first o n (w ++ c ∷ z) (Ok (wrapped o e c, z)) h (eat-finds _ _ _ _ (here (codes "(") o h refl) (when-no _ _ _ _ (not_closed d (c ∷ z))
    (bind-finds _ _ _ (f n (c ∷ z) (round_shut c z k 1 e)) (when-no _ _ _ _ (sign_sign (codes ")") (codes "=") c k) (eat-finds _ _ _ _ (here (codes ")") c k refl) (give-finds _ _)))))))

-- ---- parts of records

abbrev pub Part_finds : List Token → PartExpr → Type 0
Part_finds w part = (n : ℕ) (z : List Token) → Shut z → part_with (expr_at n) (w ++ z) ⊑ Ok (part, z)

-- the parts by themselves, and behind a `(`, where the first label is read as an expression
pub record Parts_find (w : List Token) (parts : List PartExpr) : Type 0 where
  pub alone : (n : ℕ) (z : List Token) (v : Reading (List PartExpr)) → Shut z → ((m : ℕ) → many comma (parts_turn (expr_at n)) m parts z ⊑ v) → parts_with (expr_at n) n (w ++ z) ⊑ v
  pub behind : (n : ℕ) (o : Token) (z : List Token) (v : Reading Part) → Shut z → ((m : ℕ) → bind (many comma (parts_turn (expr_at n)) m parts) (record_end_with (expr_at n) o) z ⊑ v) → round_body_with (expr_at n) n o (w ++ z) ⊑ v

pub set_finds : (l q : Token) (w : List Token) (e : Part) → IsName l → IsSign (codes "=") q → Whole w e → Part_finds (l ∷ q ∷ w) (part_of (word_of l) e)
unfolding part_with
set_finds l q w e h k f n z s = eat-finds _ _ _ _ h (eat-finds _ _ _ _ (here (codes "=") q k refl) (bind-finds _ _ _ (f n z (s 1 e)) (give-finds _ _)))

-- a name as an expression
name_whole : (l : Token) → IsName l → Whole (l ∷ []) (named l)
name_whole l h =
    let w : List Token = l ∷ [] in
    let e : Part = named l in
    whole w e (left_up level.Or refl AND w e (and_whole w e (left_up level.And refl COMPARISON w e (comparison_up w e refl (join_up w e (left_up level.Sum refl PRODUCT w e
    (product_whole w e (left_up level.Product refl UNARY w e (unary_whole w e (postfix_finds w e (IsPostfix.primary (IsPrimary.name l h)) (primary_up w e (name_finds l h))))))))))))

pub first_part_finds : (l q : Token) (w : List Token) (e : Part) → IsName l → IsSign (codes "=") q → Whole w e → Parts_find (l ∷ q ∷ w) (part_of (word_of l) e ∷ [])
unfolding parts_with round_body_with record_with word_of
first_part_finds l q w e h k f = record {
  alone = λ n z v s more. bind-finds _ _ _ (set_finds l q w e h k f n z s) (more n);
  behind = λ n o z v s more. let is = here (codes "=") q k refl in
      bind-finds _ _ _ (name_whole l h n (q ∷ (w ++ z)) (equals_shut q (w ++ z) k 1 (named l))) (when-yes _ _ _ _ is (given-finds _ _ _ refl (eat-finds _ _ _ _ is
      (bind-finds _ _ _ (f n z (s 1 e)) (more n)))));
}

next_turn : (s : Token) (w : List Token) (parts : List PartExpr) (part : PartExpr) → IsSign (codes ",") s → Part_finds w part → (n : ℕ) (z : List Token) → Shut z → parts_turn (expr_at n) parts (s ∷ (w ++ z)) ⊑ Ok (parts ++ part ∷ [], z)
unfolding parts_turn
next_turn s w parts part h f n z sh = eat-finds _ _ _ _ (here (codes ",") s h refl) (bind-finds _ _ _ (f n z sh) (give-finds _ _))

pub next_part_finds : (s : Token) (u w : List Token) (parts : List PartExpr) (part : PartExpr) → Parts_find u parts → IsSign (codes ",") s → Part_finds w part → Parts_find (u ++ s ∷ w) (parts ++ part ∷ [])
next_part_finds s u w parts part p h f = record {
  alone = λ n z v sh more. along (parts_with (expr_at n) n) v (sym (append_assoc u (s ∷ w) z))
      (p.alone n (s ∷ (w ++ z)) v (comma_shut s (w ++ z) h) (many-goes comma _ parts (s ∷ (w ++ z)) (here (codes ",") s h refl) (next_turn s w parts part h f n z sh) more));
  behind = λ n o z v sh more. along (round_body_with (expr_at n) n o) v (sym (append_assoc u (s ∷ w) z))
      (p.behind n o (s ∷ (w ++ z)) v (comma_shut s (w ++ z) h) (bind-many-goes comma _ (record_end_with (expr_at n) o) parts (s ∷ (w ++ z)) (here (codes ",") s h refl) (next_turn s w parts part h f n z sh) more));
}

part_begins : {w : List Token} {part : PartExpr} → IsPart w part → (z : List Token) → Begins is_expr_start (w ++ z)
part_begins (IsPart.set l q h k d) z = ap is_expr_start (name_start l h)

parts_begin : {w : List Token} {parts : List PartExpr} → IsParts w parts → (z : List Token) → Begins is_expr_start (w ++ z)
parts_begin (IsParts.first_part d) z = part_begins d z
parts_begin (IsParts.next_part {u = u} {v = v} s d h c) z = regrouped is_expr_start u (s ∷ v) z (parts_begin d ((s ∷ v) ++ z))

behind_round : (o : Token) (w : List Token) (parts : List PartExpr) (n : ℕ) (z : List Token) (v : Reading Part) → IsSign (codes "(") o → IsParts w parts → round_body_with (expr_at n) n o (w ++ z) ⊑ v → PRIMARY n (o ∷ (w ++ z)) ⊑ v
unfolding round_with
behind_round o w parts n z v h d k = round_first o n (w ++ z) v h (eat-finds _ _ _ _ (here (codes "(") o h refl)
    (when-no _ _ _ _ (first_not_sign is_expr_start (codes ")") (w ++ z) (parts_begin d z) closes_round.start) k))

pub fields_finds : (o c : Token) (w : List Token) (parts : List PartExpr) → IsSign (codes "(") o → IsParts w parts → Parts_find w parts → IsSign (codes ")") c → Primary_finds (o ∷ (w ++ c ∷ [])) (record_of o parts c)
unfolding record_end_with
fields_finds o c w parts h d f k n z un = along (PRIMARY n) _ (cons o (sym (append_assoc w (c ∷ []) z)))
    (behind_round o w parts n (c ∷ z) (Ok (record_of o parts c, z)) h d (f.behind n o (c ∷ z) (Ok (record_of o parts c, z)) (round_shut c z k)
    (λ m. bind-finds _ _ _ (many-ends comma _ m parts (c ∷ z) (sign_sign (codes ")") (codes ",") c k))
    (when-no _ _ _ _ (sign_sign (codes ")") (codes "|") c k) (eat-finds _ _ _ _ (here (codes ")") c k refl) (give-finds _ _))))))

pub extension_finds : (o b c : Token) (u w : List Token) (parts : List PartExpr) (r : Part) → IsSign (codes "(") o → IsParts u parts → Parts_find u parts → IsSign (codes "|") b → Whole w r → IsSign (codes ")") c → Primary_finds (o ∷ (u ++ b ∷ (w ++ c ∷ []))) (extended o parts r c)
unfolding record_end_with
extension_finds o b c u w parts r h d f k g i n z un = let bar = here (codes "|") b k refl in
    along (PRIMARY n) _ (cons o (sym (append_assoc u (b ∷ (w ++ c ∷ [])) z ∙ ap (λ (y : List Token). u ++ b ∷ y) (append_assoc w (c ∷ []) z))))
    (behind_round o u parts n (b ∷ (w ++ c ∷ z)) (Ok (extended o parts r c, z)) h d (f.behind n o (b ∷ (w ++ c ∷ z)) (Ok (extended o parts r c, z)) (bar_shut b (w ++ c ∷ z) k)
    (λ m. bind-finds _ _ _ (many-ends comma _ m parts (b ∷ (w ++ c ∷ z)) (sign_sign (codes "|") (codes ",") b k))
    (when-yes _ _ _ _ bar (eat-finds _ _ _ _ bar (bind-finds _ _ _ (g n (c ∷ z) (round_shut c z i 1 r)) (eat-finds _ _ _ _ (here (codes ")") c i refl) (give-finds _ _))))))))

-- ---- lists, blocks and prefixes

pub list_finds : (o c : Token) (w : List Token) (items : List Expr) → IsSign (codes "[") o → Args_finds (codes "]") w items → IsSign (codes "]") c → Primary_finds (o ∷ (w ++ c ∷ [])) (list_of o items c)
unfolding primary_with list_with start_of_sign
list_finds o c w items h f k n z un = let s = sign_start (codes "[") o h in let opens = here (codes "[") o h refl in
    along (PRIMARY n) _ (cons o (sym (append_assoc w (c ∷ []) z)))
    (when-no _ _ _ _ (not_begins start.Literal o start.Square s refl) (when-no _ _ _ _ (not_name o start.Square s refl) (when-no _ _ _ _ (not_tag o start.Square s refl)
    (when-no _ _ _ _ (sign_sign (codes "[") (codes "(") o h) (when-yes _ _ _ _ opens
    (eat-finds _ _ _ _ opens (bind-finds _ _ _ (f n c z k) (eat-finds _ _ _ _ (here (codes "]") c k refl) (give-finds _ _)))))))))

pub prefix_finds : (k o c : Token) (w : List Token) (e : Part) → begins start.Prefix k ≡ true → IsSign (codes "(") o → Whole w e → IsSign (codes ")") c → Primary_finds (k ∷ o ∷ (w ++ c ∷ [])) (prefixed k e c)
unfolding primary_with prefix_with start_of_sign
prefix_finds k o c w e h i f j n z un = let s = begins_start start.Prefix k h in
    along (PRIMARY n) _ (cons k (cons o (sym (append_assoc w (c ∷ []) z))))
    (when-no _ _ _ _ (not_begins start.Literal k start.Prefix s refl) (when-no _ _ _ _ (not_name k start.Prefix s refl) (when-no _ _ _ _ (not_tag k start.Prefix s refl)
    (when-no _ _ _ _ (not_sign (codes "(") k start.Prefix s refl) (when-no _ _ _ _ (not_sign (codes "[") k start.Prefix s refl) (when-no _ _ _ _ (not_sign (codes "{") k start.Prefix s refl) (when-yes _ _ _ _ h
    (eat-finds _ _ _ _ h (eat-finds _ _ _ _ (here (codes "(") o i refl) (bind-finds _ _ _ (f n (c ∷ z) (round_shut c z j 1 e)) (eat-finds _ _ _ _ (here (codes ")") c j refl) (give-finds _ _))))))))))))

abbrev pub Block_finds : List Token → Part → Type 0
Block_finds w e = (n : ℕ) (z : List Token) → block_with (expr_at n) n (w ++ z) ⊑ Ok (e, z)

abbrev pub Statements_find : List Token → List Statement → Type 0
Statements_find w ss = (n : ℕ) (z : List Token) (v : Reading (List Statement × Part)) → ((m : ℕ) → statements_with (expr_at n) m ss z ⊑ v) → (m : ℕ) → statements_with (expr_at n) m [] (w ++ z) ⊑ v

last_finds : (c : Token) (v : List Token) (ss : List Statement) (e : Part) → IsExpr v e → Whole v e → IsSign (codes "}") c → (n : ℕ) (z : List Token) (m : ℕ) → statements_with (expr_at n) m ss (v ++ c ∷ z) ⊑ Ok ((ss, e), c ∷ z)
unfolding statements_with
last_finds c v ss e d f k n z zero = tired-finds _ _
last_finds c v ss e d f k n z (suc m) = when-no _ _ _ _ (not_var d (c ∷ z))
    (bind-finds _ _ _ (f n (c ∷ z) (brace_shut c z k 1 e)) (when-no _ _ _ _ (sign_sign (codes "}") (codes ";") c k) (give-finds _ _)))

pub block_finds : (o c : Token) (u v : List Token) (ss : List Statement) (e : Part) → IsSign (codes "{") o → Statements_find u ss → IsExpr v e → Whole v e → IsSign (codes "}") c → Block_finds (o ∷ (u ++ (v ++ c ∷ []))) (braced o ss e c)
unfolding block_with
block_finds o c u v ss e h g d f k n z = along (block_with (expr_at n) n) _ (cons o (sym (append_assoc u (v ++ c ∷ []) z ∙ ap (λ (y : List Token). u ++ y) (append_assoc v (c ∷ []) z))))
    (eat-finds _ _ _ _ (here (codes "{") o h refl) (bind-finds _ _ _ (g n (v ++ c ∷ z) (Ok ((ss, e), c ∷ z)) (λ m. last_finds c v ss e d f k n z m) n)
    (eat-finds _ _ _ _ (here (codes "}") c k refl) (give-finds _ _))))

pub no_statements_find : Statements_find [] []
no_statements_find n z v k m = k m

let_finds : (k x q s : Token) (w : List Token) (e : Part) → IsWord (codes "var") k → IsName x → IsSign (codes "=") q → Whole w e → IsSign (codes ";") s → (n : ℕ) (z : List Token) → let_with (expr_at n) (k ∷ x ∷ q ∷ (w ++ s ∷ z)) ⊑ Ok (var_statement k x e, z)
unfolding let_with
let_finds k x q s w e g h i f j n z = eat-finds _ _ _ _ (word_word (codes "var") (codes "var") k g) (eat-finds _ _ _ _ h (eat-finds _ _ _ _ (here (codes "=") q i refl)
    (bind-finds _ _ _ (f n (s ∷ z) (end_shut s z j 1 e)) (eat-finds _ _ _ _ (here (codes ";") s j refl) (give-finds _ _)))))

pub var_finds : (k x q s : Token) (u w : List Token) (ss : List Statement) (e : Part) → Statements_find u ss → IsWord (codes "var") k → IsName x → IsSign (codes "=") q → Whole w e → IsSign (codes ";") s → Statements_find (u ++ k ∷ x ∷ q ∷ (w ++ s ∷ [])) (ss ++ var_statement k x e ∷ [])
unfolding statements_with
var_finds k x q s u w ss e p g h i f j n z v more m = along (statements_with (expr_at n) m []) v (sym (append_assoc u (k ∷ x ∷ q ∷ (w ++ s ∷ [])) z ∙ ap (λ (y : List Token). u ++ k ∷ x ∷ q ∷ y) (append_assoc w (s ∷ []) z)))
    (p n (k ∷ x ∷ q ∷ (w ++ s ∷ z)) v (λ i'. one_more i') m)
  where
    one_more : (m' : ℕ) → statements_with (expr_at n) m' ss (k ∷ x ∷ q ∷ (w ++ s ∷ z)) ⊑ v
    one_more zero = tired-finds _ _
    one_more (suc m') = when-yes _ _ _ _ (word_word (codes "var") (codes "var") k g) (bind-finds _ _ _ (let_finds k x q s w e g h i f j n z) (more m'))

pub plain_finds : (s : Token) (u w : List Token) (ss : List Statement) (e : Part) → Statements_find u ss → IsExpr w e → Whole w e → IsSign (codes ";") s → Statements_find (u ++ (w ++ s ∷ [])) (ss ++ plain_statement e ∷ [])
unfolding statements_with
plain_finds s u w ss e p d f j n z v more m = along (statements_with (expr_at n) m []) v (sym (append_assoc u (w ++ s ∷ []) z ∙ ap (λ (y : List Token). u ++ y) (append_assoc w (s ∷ []) z)))
    (p n (w ++ s ∷ z) v (λ i'. one_more i') m)
  where
    one_more : (m' : ℕ) → statements_with (expr_at n) m' ss (w ++ s ∷ z) ⊑ v
    one_more zero = tired-finds _ _
    one_more (suc m') = let closes = here (codes ";") s j refl in
        when-no _ _ _ _ (not_var d (s ∷ z)) (bind-finds _ _ _ (f n (s ∷ z) (end_shut s z j 1 e)) (when-yes _ _ _ _ closes (eat-finds _ _ _ _ closes (more m'))))

pub block_head : {w : List Token} {e : Part} → IsBlock w e → (o : Token) × (v : List Token) × (w ≡ o ∷ v) × IsSign (codes "{") o
block_head (IsBlock.braces o c {u = u} {v = v} h s d k) = (o, u ++ (v ++ c ∷ []), refl, h)

pub block_primary_finds : (w : List Token) (e : Part) → IsBlock w e → Block_finds w e → Primary_finds w e
unfolding primary_with start_of_sign
block_primary_finds w e d f n z un =
    let b = block_head d in
    let first : (p : Token → Bool) → peek p (w ++ z) ≡ p b.0 = λ p. ap (λ (y : List Token). peek p (y ++ z)) b.2 in
    let s = sign_start (codes "{") b.0 b.3 in
    when-no _ _ _ _ (first (begins start.Literal) ∙ not_begins start.Literal b.0 start.Brace s refl) (when-no _ _ _ _ (first is_name ∙ not_name b.0 start.Brace s refl)
    (when-no _ _ _ _ (first is_any_tag ∙ not_tag b.0 start.Brace s refl) (when-no _ _ _ _ (first (is_sign (codes "(")) ∙ sign_sign (codes "{") (codes "(") b.0 b.3)
    (when-no _ _ _ _ (first (is_sign (codes "[")) ∙ sign_sign (codes "{") (codes "[") b.0 b.3) (when-yes _ _ _ _ (first (is_sign (codes "{")) ∙ here (codes "{") b.0 b.3 refl) (f n z))))))

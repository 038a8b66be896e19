-- What the grammar derives is read, unless the room is too small: forms.
use Rattle.std.proofs.Common.{◌≡◌, ℕ, true, false, List, [], ◌∷◌, ◌++◌, Some, None, Ok, refl, sym, ap, ◌∙◌, append_assoc}
use Rattle.std.specs.Prelude.{codes, nat_eq}
use Rattle.lk_ast.specs.declared.expression.Case.{Case}
use Rattle.lk_ast.specs.declared.expression.PartExpr.{PartExpr}
use Rattle.lk_ast.specs.declared.expression.SortKey.{SortKey}
use Rattle.lk_ast.specs.declared.place.Loc.{Loc}
use Rattle.lk_ast.specs.declared.place.Word.{Word}
use Rattle.lk_ast.specs.declared.token.Token.{Token}
use Rattle.lk_read.specs.Keywords.{is_keyword}
use Rattle.lk_read.specs.Kinds.{IsSign, IsWord, IsName, IsAnyTag, is_sign, is_word, word_of}
use Rattle.lk_read.specs.Reader.{Reading, Reader, peek, many}
use Rattle.lk_read.proofs.Below.{◌⊑◌, bind-finds, eat-finds, give-finds, given-finds, when-yes, when-no, many-ends, many-goes}
use Rattle.lk_read.proofs.KindLaws.{sign_sign, sign_word, word_word, word_sign}
use Rattle.lk_read.proofs.Moves.{along, cons, here}
use Rattle.lk_rows.specs.Reading.{comma}
use Rattle.lk_grammar.specs.Expressions.{IsForm, IsParams, IsPlace, IsOrder, IsBlock, IsCase}
use Rattle.lk_parts.specs.Operators.{level_of_word}
use Rattle.lk_parts.specs.Parts.{if_form, list_loop, table_loop, where_form, insert_form, change_of, update_form, delete_form, switch_form, query_form, lambda_form, no_cases, case_of, last_case, goes_on, some_case}
use Rattle.lk_grammar.specs.Reading.{if_with, list_loop_with, table_loop_with, for_with, where_with, insert_with, change_cond_with, change_with, update_with, delete_with, tag_case_with, last_case_with, case_next, cases_turn, switch_with, query_with, lambda_with, form_with, expr_at}
use Rattle.lk_parts.specs.Starts.{start_of_keyword, number, begins}
use Rattle.lk_parts.specs.declared.part.Cases.{Cases}
use Rattle.lk_parts.specs.declared.part.Change.{Change}
use Rattle.lk_parts.specs.declared.part.Part.{Part}
use Rattle.lk_parts.specs.declared.starts.Start.{Start}
use Rattle.lk_parts.specs.declared.starts.Start.TheVariants as start
use Rattle.lk_grammar.proofs.Follows.{Shut, shut_word, stops_opened}
use Rattle.lk_parts.proofs.StartLaws.{name_start, word_start, not_tag}
use Rattle.lk_grammar.proofs.CompleteLevels.{Whole, Form_finds}
use Rattle.lk_grammar.proofs.CompleteNames.{params_find, place_finds, order_finds}
use Rattle.lk_grammar.proofs.CompletePrimaries.{Parts_find, Block_finds, round_shut, brace_shut, block_head}

abbrev FORM : ℕ → Reader Part
FORM n = form_with (expr_at n) n

-- ---- if, for, where and insert

pub conditional_finds : (k o c l : Token) (t u v : List Token) (a d e : Part) → IsWord (codes "if") k → IsSign (codes "(") o → Whole t a → IsSign (codes ")") c → Whole u d → IsWord (codes "else") l → Whole v e → Form_finds (k ∷ o ∷ (t ++ c ∷ (u ++ l ∷ v))) (if_form k a d e)
unfolding form_with if_with level_of_word
conditional_finds k o c l t u v a d e h i f j g m p n z stop = let is = word_word (codes "if") (codes "if") k h in
    along (FORM n) _ (cons k (cons o (sym (append_assoc t (c ∷ (u ++ l ∷ v)) z ∙ ap (λ (y : List Token). t ++ c ∷ y) (append_assoc u (l ∷ v) z)))))
    (when-yes _ _ _ _ is (eat-finds _ _ _ _ is (eat-finds _ _ _ _ (here (codes "(") o i refl)
    (bind-finds _ _ _ (f n (c ∷ (u ++ l ∷ (v ++ z))) (round_shut c (u ++ l ∷ (v ++ z)) j 1 a)) (eat-finds _ _ _ _ (here (codes ")") c j refl)
    (bind-finds _ _ _ (g n (l ∷ (v ++ z)) (shut_word (codes "else") l (v ++ z) refl m 1 d)) (eat-finds _ _ _ _ (word_word (codes "else") (codes "else") l m)
    (bind-finds _ _ _ (p n z (stops_opened k e _ z stop)) (give-finds _ _)))))))))

for_first : (k : Token) (y : List Token) (n : ℕ) (v : Reading Part) → IsWord (codes "for") k → for_with (expr_at n) (k ∷ y) ⊑ v → FORM n (k ∷ y) ⊑ v
unfolding form_with
for_first k y n v h r = when-no _ _ _ _ (word_word (codes "for") (codes "if") k h) (when-yes _ _ _ _ (word_word (codes "for") (codes "for") k h) r)

pub list_loop_finds : (k o x s c : Token) (u v : List Token) (e d : Part) → IsWord (codes "for") k → IsSign (codes "(") o → IsName x → IsSign (codes "<-") s → Whole u e → IsSign (codes ")") c → Whole v d → Form_finds (k ∷ o ∷ x ∷ s ∷ (u ++ c ∷ v)) (list_loop k x e d)
unfolding for_with list_loop_with
list_loop_finds k o x s c u v e d h i j m f p g n z stop = let arrow = here (codes "<-") s m refl in
    along (FORM n) _ (cons k (cons o (cons x (cons s (sym (append_assoc u (c ∷ v) z))))))
    (for_first k (o ∷ x ∷ s ∷ (u ++ c ∷ (v ++ z))) n _ h (eat-finds _ _ _ _ (word_word (codes "for") (codes "for") k h) (eat-finds _ _ _ _ (here (codes "(") o i refl) (eat-finds _ _ _ _ j
    (when-yes _ _ _ _ arrow (eat-finds _ _ _ _ arrow (bind-finds _ _ _ (f n (c ∷ (v ++ z)) (round_shut c (v ++ z) p 1 e)) (eat-finds _ _ _ _ (here (codes ")") c p refl)
    (bind-finds _ _ _ (g n z (stops_opened k d _ z stop)) (give-finds _ _))))))))))

pub table_loop_finds : (k o x s t c : Token) (v : List Token) (d : Part) → IsWord (codes "for") k → IsSign (codes "(") o → IsName x → IsSign (codes "<--") s → IsName t → IsSign (codes ")") c → Whole v d → Form_finds (k ∷ o ∷ x ∷ s ∷ t ∷ c ∷ v) (table_loop k x t d)
unfolding for_with table_loop_with
table_loop_finds k o x s t c v d h i j m p q g n z stop =
    for_first k (o ∷ x ∷ s ∷ t ∷ c ∷ (v ++ z)) n _ h (eat-finds _ _ _ _ (word_word (codes "for") (codes "for") k h) (eat-finds _ _ _ _ (here (codes "(") o i refl) (eat-finds _ _ _ _ j
    (when-no _ _ _ _ (sign_sign (codes "<--") (codes "<-") s m) (eat-finds _ _ _ _ (here (codes "<--") s m refl) (eat-finds _ _ _ _ p (eat-finds _ _ _ _ (here (codes ")") c q refl)
    (bind-finds _ _ _ (g n z (stops_opened k d _ z stop)) (give-finds _ _)))))))))

pub where_finds : (k o c : Token) (u v : List Token) (a e : Part) → IsWord (codes "where") k → IsSign (codes "(") o → Whole u a → IsSign (codes ")") c → Whole v e → Form_finds (k ∷ o ∷ (u ++ c ∷ v)) (where_form k a e)
unfolding form_with where_with
where_finds k o c u v a e h i f j g n z stop = let is = word_word (codes "where") (codes "where") k h in
    along (FORM n) _ (cons k (cons o (sym (append_assoc u (c ∷ v) z))))
    (when-no _ _ _ _ (word_word (codes "where") (codes "if") k h) (when-no _ _ _ _ (word_word (codes "where") (codes "for") k h) (when-yes _ _ _ _ is
    (eat-finds _ _ _ _ is (eat-finds _ _ _ _ (here (codes "(") o i refl) (bind-finds _ _ _ (f n (c ∷ (v ++ z)) (round_shut c (v ++ z) j 1 a)) (eat-finds _ _ _ _ (here (codes ")") c j refl)
    (bind-finds _ _ _ (g n z (stops_opened k e _ z stop)) (give-finds _ _)))))))))

pub insert_finds : (k t s : Token) (v : List Token) (e : Part) → IsWord (codes "insert") k → IsName t → IsWord (codes "values") s → Whole v e → Form_finds (k ∷ t ∷ s ∷ v) (insert_form k t e)
unfolding form_with insert_with
insert_finds k t s v e h i j g n z stop = let is = word_word (codes "insert") (codes "insert") k h in
    when-no _ _ _ _ (word_word (codes "insert") (codes "if") k h) (when-no _ _ _ _ (word_word (codes "insert") (codes "for") k h) (when-no _ _ _ _ (word_word (codes "insert") (codes "where") k h) (when-yes _ _ _ _ is
    (eat-finds _ _ _ _ is (eat-finds _ _ _ _ i (eat-finds _ _ _ _ (word_word (codes "values") (codes "values") s j)
    (bind-finds _ _ _ (g n z (stops_opened k e _ z stop)) (give-finds _ _))))))))

-- ---- update and delete

abbrev pub Change_finds : List Token → Change → Type 0
Change_finds w change = (n : ℕ) (z : List Token) → change_with (expr_at n) (w ++ z) ⊑ Ok (change, z)

pub rows_find : (o x s t c h p q : Token) (w : List Token) (a : Part) → IsSign (codes "(") o → IsName x → IsSign (codes "<--") s → IsName t → IsSign (codes ")") c → IsWord (codes "where") h → IsSign (codes "(") p → Whole w a → IsSign (codes ")") q → Change_finds (o ∷ x ∷ s ∷ t ∷ c ∷ h ∷ p ∷ (w ++ q ∷ [])) (change_of x t a q)
unfolding change_with change_cond_with
rows_find o x s t c h p q w a i j k l m d b f e n z =
    along (change_with (expr_at n)) _ (cons o (cons x (cons s (cons t (cons c (cons h (cons p (sym (append_assoc w (q ∷ []) z)))))))))
    (eat-finds _ _ _ _ (here (codes "(") o i refl) (eat-finds _ _ _ _ j (eat-finds _ _ _ _ (here (codes "<--") s k refl) (eat-finds _ _ _ _ l (eat-finds _ _ _ _ (here (codes ")") c m refl)
    (eat-finds _ _ _ _ (word_word (codes "where") (codes "where") h d) (eat-finds _ _ _ _ (here (codes "(") p b refl)
    (bind-finds _ _ _ (f n (q ∷ z) (round_shut q z e 1 a)) (eat-finds _ _ _ _ (here (codes ")") q e refl) (give-finds _ _))))))))))

update_first : (k : Token) (y : List Token) (n : ℕ) (v : Reading Part) → IsWord (codes "update") k → update_with (expr_at n) n (k ∷ y) ⊑ v → FORM n (k ∷ y) ⊑ v
unfolding form_with
update_first k y n v h r = when-no _ _ _ _ (word_word (codes "update") (codes "if") k h) (when-no _ _ _ _ (word_word (codes "update") (codes "for") k h) (when-no _ _ _ _ (word_word (codes "update") (codes "where") k h)
    (when-no _ _ _ _ (word_word (codes "update") (codes "insert") k h) (when-yes _ _ _ _ (word_word (codes "update") (codes "update") k h) r))))

pub update_finds : (k h o c : Token) (v w : List Token) (change : Change) (sets : List PartExpr) → IsWord (codes "update") k → Change_finds v change → IsWord (codes "set") h → IsSign (codes "(") o → Parts_find w sets → IsSign (codes ")") c → Form_finds (k ∷ (v ++ h ∷ o ∷ (w ++ c ∷ []))) (update_form k change sets c)
unfolding update_with
update_finds k h o c v w change sets i f j m p q n z stop =
    along (FORM n) _ (cons k (sym (append_assoc v (h ∷ o ∷ (w ++ c ∷ [])) z ∙ ap (λ (y : List Token). v ++ h ∷ o ∷ y) (append_assoc w (c ∷ []) z))))
    (update_first k (v ++ h ∷ o ∷ (w ++ c ∷ z)) n _ i (eat-finds _ _ _ _ (word_word (codes "update") (codes "update") k i) (bind-finds _ _ _ (f n (h ∷ o ∷ (w ++ c ∷ z)))
    (eat-finds _ _ _ _ (word_word (codes "set") (codes "set") h j) (eat-finds _ _ _ _ (here (codes "(") o m refl)
    (bind-finds _ _ _ (p.alone n (c ∷ z) (Ok (sets, c ∷ z)) (round_shut c z q) (λ i'. many-ends comma _ i' sets (c ∷ z) (sign_sign (codes ")") (codes ",") c q)))
    (eat-finds _ _ _ _ (here (codes ")") c q refl) (give-finds _ _))))))))

pub delete_finds : (k : Token) (v : List Token) (change : Change) → IsWord (codes "delete") k → Change_finds v change → Form_finds (k ∷ v) (delete_form k change)
unfolding form_with delete_with
delete_finds k v change h f n z stop = let is = word_word (codes "delete") (codes "delete") k h in
    when-no _ _ _ _ (word_word (codes "delete") (codes "if") k h) (when-no _ _ _ _ (word_word (codes "delete") (codes "for") k h) (when-no _ _ _ _ (word_word (codes "delete") (codes "where") k h)
    (when-no _ _ _ _ (word_word (codes "delete") (codes "insert") k h) (when-no _ _ _ _ (word_word (codes "delete") (codes "update") k h) (when-yes _ _ _ _ is
    (eat-finds _ _ _ _ is (bind-finds _ _ _ (f n z) (give-finds _ _))))))))

-- ---- switch

abbrev pub Case_finds : List Token → Case → Type 0
Case_finds w case = (n : ℕ) (cases : Cases) (z : List Token) → goes_on cases ≡ true → Shut z → cases_turn (expr_at n) cases (w ++ z) ⊑ Ok (record { list = cases.list ++ case ∷ []; last = None }, z)

pub named_case_finds : (k t o x c a : Token) (w : List Token) (e : Part) → IsWord (codes "case") k → IsAnyTag t → IsSign (codes "(") o → IsName x → IsSign (codes ")") c → IsSign (codes "->") a → Whole w e → Case_finds (k ∷ t ∷ o ∷ x ∷ c ∷ a ∷ w) (case_of t (Some (word_of x)) e)
unfolding cases_turn tag_case_with
named_case_finds k t o x c a w e h i j m p q f n cases z go s = let opens = here (codes "(") o j refl in
    given-finds _ _ _ go (eat-finds _ _ _ _ (word_word (codes "case") (codes "case") k h) (when-yes _ _ _ _ i (eat-finds _ _ _ _ i
    (bind-finds _ _ _ (when-yes _ _ _ _ opens (eat-finds _ _ _ _ opens (eat-finds _ _ _ _ m (eat-finds _ _ _ _ (here (codes ")") c p refl) (eat-finds _ _ _ _ (here (codes "->") a q refl)
    (bind-finds _ _ _ (f n z (s 1 e)) (give-finds _ _))))))) (give-finds _ _)))))

pub unit_case_finds : (k t a : Token) (w : List Token) (e : Part) → IsWord (codes "case") k → IsAnyTag t → IsSign (codes "->") a → Whole w e → Case_finds (k ∷ t ∷ a ∷ w) (case_of t None e)
unfolding cases_turn tag_case_with
unit_case_finds k t a w e h i q f n cases z go s =
    given-finds _ _ _ go (eat-finds _ _ _ _ (word_word (codes "case") (codes "case") k h) (when-yes _ _ _ _ i (eat-finds _ _ _ _ i
    (bind-finds _ _ _ (when-no _ _ _ _ (sign_sign (codes "->") (codes "(") a q) (eat-finds _ _ _ _ (here (codes "->") a q refl)
    (bind-finds _ _ _ (f n z (s 1 e)) (give-finds _ _)))) (give-finds _ _)))))

abbrev pub Cases_find : List Token → Cases → Type 0
Cases_find w cases = (n : ℕ) (z : List Token) (v : Reading Cases) → Shut z → ((m : ℕ) → many case_next (cases_turn (expr_at n)) m cases z ⊑ v) → (m : ℕ) → many case_next (cases_turn (expr_at n)) m no_cases (w ++ z) ⊑ v

case_is_next : {w : List Token} {c : Case} → IsCase w c → (z : List Token) → peek (is_word (codes "case")) (w ++ z) ≡ true
case_is_next (IsCase.named_case k t o x c a h i j m p q d) z = word_word (codes "case") (codes "case") k h
case_is_next (IsCase.unit_case k t a h i q d) z = word_word (codes "case") (codes "case") k h

case_shut : {w : List Token} {c : Case} → IsCase w c → (z : List Token) → Shut (w ++ z)
unfolding level_of_word
case_shut (IsCase.named_case k t o x c a {w = w} h i j m p q d) z = shut_word (codes "case") k (t ∷ o ∷ x ∷ c ∷ a ∷ (w ++ z)) refl h
case_shut (IsCase.unit_case k t a {w = w} h i q d) z = shut_word (codes "case") k (t ∷ a ∷ (w ++ z)) refl h

pub no_case_finds : Cases_find [] no_cases
no_case_finds n z v s k m = k m

pub next_case_finds : (u w : List Token) (cases : Cases) (case : Case) → Cases_find u cases → goes_on cases ≡ true → IsCase w case → Case_finds w case → Cases_find (u ++ w) (record { list = cases.list ++ case ∷ []; last = None })
next_case_finds u w cases case p go d f n z v s more m = along (many case_next (cases_turn (expr_at n)) m no_cases) v (sym (append_assoc u w z))
    (p n (w ++ z) v (case_shut d z) (many-goes case_next _ cases (w ++ z) (case_is_next d z) (f n cases z go s) more) m)

pub final_case_finds : (k x a : Token) (u w : List Token) (cases : Cases) (e : Part) → Cases_find u cases → goes_on cases ≡ true → IsWord (codes "case") k → IsName x → IsSign (codes "->") a → Whole w e → Cases_find (u ++ k ∷ x ∷ a ∷ w) (record { list = cases.list; last = Some (last_case x e) })
unfolding cases_turn last_case_with level_of_word
final_case_finds k x a u w cases e p go h i j f n z v s more m = let is = word_word (codes "case") (codes "case") k h in
    along (many case_next (cases_turn (expr_at n)) m no_cases) v (sym (append_assoc u (k ∷ x ∷ a ∷ w) z))
    (p n (k ∷ x ∷ a ∷ (w ++ z)) v (shut_word (codes "case") k (x ∷ a ∷ (w ++ z)) refl h) (many-goes case_next _ cases (k ∷ x ∷ a ∷ (w ++ z)) is
    (given-finds _ _ _ go (eat-finds _ _ _ _ is (when-no _ _ _ _ (not_tag x start.Name (name_start x i) refl) (eat-finds _ _ _ _ i (eat-finds _ _ _ _ (here (codes "->") a j refl)
    (bind-finds _ _ _ (f n z (s 1 e)) (give-finds _ _))))))) more) m)

switch_first : (k : Token) (y : List Token) (n : ℕ) (v : Reading Part) → IsWord (codes "switch") k → switch_with (expr_at n) n (k ∷ y) ⊑ v → FORM n (k ∷ y) ⊑ v
unfolding form_with
switch_first k y n v h r = when-no _ _ _ _ (word_word (codes "switch") (codes "if") k h) (when-no _ _ _ _ (word_word (codes "switch") (codes "for") k h) (when-no _ _ _ _ (word_word (codes "switch") (codes "where") k h)
    (when-no _ _ _ _ (word_word (codes "switch") (codes "insert") k h) (when-no _ _ _ _ (word_word (codes "switch") (codes "update") k h) (when-no _ _ _ _ (word_word (codes "switch") (codes "delete") k h)
    (when-yes _ _ _ _ (word_word (codes "switch") (codes "switch") k h) r))))))

pub switch_finds : (k o c b d : Token) (u v : List Token) (e : Part) (cases : Cases) → IsWord (codes "switch") k → IsSign (codes "(") o → Whole u e → IsSign (codes ")") c → IsSign (codes "{") b → Cases_find v cases → some_case cases ≡ true → IsSign (codes "}") d → Form_finds (k ∷ o ∷ (u ++ c ∷ b ∷ (v ++ d ∷ []))) (switch_form k e cases d)
unfolding switch_with
switch_finds k o c b d u v e cases h i f j m g some q n z stop =
    along (FORM n) _ (cons k (cons o (sym (append_assoc u (c ∷ b ∷ (v ++ d ∷ [])) z ∙ ap (λ (y : List Token). u ++ c ∷ b ∷ y) (append_assoc v (d ∷ []) z)))))
    (switch_first k (o ∷ (u ++ c ∷ b ∷ (v ++ d ∷ z))) n _ h (eat-finds _ _ _ _ (word_word (codes "switch") (codes "switch") k h) (eat-finds _ _ _ _ (here (codes "(") o i refl)
    (bind-finds _ _ _ (f n (c ∷ b ∷ (v ++ d ∷ z)) (round_shut c (b ∷ (v ++ d ∷ z)) j 1 e)) (eat-finds _ _ _ _ (here (codes ")") c j refl) (eat-finds _ _ _ _ (here (codes "{") b m refl)
    (bind-finds _ _ _ (g n (d ∷ z) (Ok (cases, d ∷ z)) (brace_shut d z q) (λ i'. many-ends case_next _ i' cases (d ∷ z) (sign_word (codes "}") (codes "case") d q)) n)
    (given-finds _ _ _ some (eat-finds _ _ _ _ (here (codes "}") d q refl) (give-finds _ _))))))))))

-- ---- query and fun

-- a block doesn't begin with a word
pub block_no_word : {w : List Token} {e : Part} → IsBlock w e → (s : List ℕ) (z : List Token) → peek (is_word s) (w ++ z) ≡ false
block_no_word d s z = let b = block_head d in ap (λ (y : List Token). peek (is_word s) (y ++ z)) b.2 ∙ sign_word (codes "{") s b.0 b.3

query_first : (k : Token) (y : List Token) (n : ℕ) (v : Reading Part) → IsWord (codes "query") k → query_with (expr_at n) n (k ∷ y) ⊑ v → FORM n (k ∷ y) ⊑ v
unfolding form_with
query_first k y n v h r = when-no _ _ _ _ (word_word (codes "query") (codes "if") k h) (when-no _ _ _ _ (word_word (codes "query") (codes "for") k h) (when-no _ _ _ _ (word_word (codes "query") (codes "where") k h)
    (when-no _ _ _ _ (word_word (codes "query") (codes "insert") k h) (when-no _ _ _ _ (word_word (codes "query") (codes "update") k h) (when-no _ _ _ _ (word_word (codes "query") (codes "delete") k h)
    (when-no _ _ _ _ (word_word (codes "query") (codes "switch") k h) (when-yes _ _ _ _ (word_word (codes "query") (codes "query") k h) r)))))))

pub query_finds : (k : Token) (u v : List Token) (keys : List SortKey) (b : Part) → IsWord (codes "query") k → IsOrder u keys → IsBlock v b → Block_finds v b → Form_finds (k ∷ (u ++ v)) (query_form k keys b)
unfolding query_with
query_finds k u v keys b h o d f n z stop = along (FORM n) _ (cons k (sym (append_assoc u v z)))
    (query_first k (u ++ (v ++ z)) n _ h (eat-finds _ _ _ _ (word_word (codes "query") (codes "query") k h) (bind-finds _ _ _ (order_finds o n (v ++ z) (block_no_word d (codes "orderby") z))
    (bind-finds _ _ _ (f n z) (give-finds _ _)))))

lambda_first : (k : Token) (y : List Token) (n : ℕ) (v : Reading Part) → IsWord (codes "fun") k → lambda_with (expr_at n) n (k ∷ y) ⊑ v → FORM n (k ∷ y) ⊑ v
unfolding form_with
lambda_first k y n v h r = when-no _ _ _ _ (word_word (codes "fun") (codes "if") k h) (when-no _ _ _ _ (word_word (codes "fun") (codes "for") k h) (when-no _ _ _ _ (word_word (codes "fun") (codes "where") k h)
    (when-no _ _ _ _ (word_word (codes "fun") (codes "insert") k h) (when-no _ _ _ _ (word_word (codes "fun") (codes "update") k h) (when-no _ _ _ _ (word_word (codes "fun") (codes "delete") k h)
    (when-no _ _ _ _ (word_word (codes "fun") (codes "switch") k h) (when-no _ _ _ _ (word_word (codes "fun") (codes "query") k h) r)))))))

pub lambda_finds : (k o c : Token) (u v w : List Token) (params : List Word) (place : Loc) (b : Part) → IsWord (codes "fun") k → IsSign (codes "(") o → IsParams u params → IsSign (codes ")") c → IsPlace v place → IsBlock w b → Block_finds w b → Form_finds (k ∷ o ∷ (u ++ c ∷ (v ++ w))) (lambda_form k params place b)
unfolding lambda_with
lambda_finds k o c u v w params place b h i p j a d f n z stop =
    along (FORM n) _ (cons k (cons o (sym (append_assoc u (c ∷ (v ++ w)) z ∙ ap (λ (y : List Token). u ++ c ∷ y) (append_assoc v w z)))))
    (lambda_first k (o ∷ (u ++ c ∷ (v ++ (w ++ z)))) n _ h (eat-finds _ _ _ _ (word_word (codes "fun") (codes "fun") k h) (eat-finds _ _ _ _ (here (codes "(") o i refl)
    (bind-finds _ _ _ (params_find p n c (v ++ (w ++ z)) j) (eat-finds _ _ _ _ (here (codes ")") c j refl)
    (bind-finds _ _ _ (place_finds a (w ++ z) (block_no_word d (codes "client") z) (block_no_word d (codes "server") z)) (bind-finds _ _ _ (f n z) (give-finds _ _))))))))

-- ---- how a form begins

-- no form begins with a sign, each with its word
pub form_starts : {w : List Token} {e : Part} → IsForm w e → (z : List Token) → (peek (is_sign (codes "-")) (w ++ z) ≡ false) × (peek (begins start.Form) (w ++ z) ≡ true)
unfolding begins is_keyword start_of_keyword
form_starts (IsForm.conditional k o c l h i a j d m b) z = (word_sign (codes "if") (codes "-") k h, ap (λ (s : Start). nat_eq (number s) 8) (word_start (codes "if") k h))
form_starts (IsForm.for_list k o x s c h i j m a n b) z = (word_sign (codes "for") (codes "-") k h, ap (λ (s : Start). nat_eq (number s) 8) (word_start (codes "for") k h))
form_starts (IsForm.for_table k o x s t c h i j m n p b) z = (word_sign (codes "for") (codes "-") k h, ap (λ (s : Start). nat_eq (number s) 8) (word_start (codes "for") k h))
form_starts (IsForm.where_holds k o c h i a j b) z = (word_sign (codes "where") (codes "-") k h, ap (λ (s : Start). nat_eq (number s) 8) (word_start (codes "where") k h))
form_starts (IsForm.insert k t s h i j b) z = (word_sign (codes "insert") (codes "-") k h, ap (λ (s : Start). nat_eq (number s) 8) (word_start (codes "insert") k h))
form_starts (IsForm.update k h o c i a j m p n) z = (word_sign (codes "update") (codes "-") k i, ap (λ (s : Start). nat_eq (number s) 8) (word_start (codes "update") k i))
form_starts (IsForm.delete k h a) z = (word_sign (codes "delete") (codes "-") k h, ap (λ (s : Start). nat_eq (number s) 8) (word_start (codes "delete") k h))
form_starts (IsForm.switch k o c b d h i a j m s n p) z = (word_sign (codes "switch") (codes "-") k h, ap (λ (s : Start). nat_eq (number s) 8) (word_start (codes "switch") k h))
form_starts (IsForm.query k h o b) z = (word_sign (codes "query") (codes "-") k h, ap (λ (s : Start). nat_eq (number s) 8) (word_start (codes "query") k h))
form_starts (IsForm.lambda k o c h i p j a b) z = (word_sign (codes "fun") (codes "-") k h, ap (λ (s : Start). nat_eq (number s) 8) (word_start (codes "fun") k h))

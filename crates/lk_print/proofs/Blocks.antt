-- What is printed of blocks.
use Rattle.std.proofs.Common.{List, [], ◌∷◌, ◌++◌, refl, sym, ap, ◌∙◌, append_assoc}
use Rattle.std.specs.Prelude.{codes}
use Rattle.std.proofs.lemmas.List.{append-nil}
use Rattle.lk_ast.specs.declared.expression.Expr.{Expr}
use Rattle.lk_ast.specs.declared.expression.Node.TheOpen.{Node-F}
use Rattle.lk_ast.specs.declared.expression.Node.TheVariants as node
use Rattle.lk_ast.specs.declared.place.Span.{Span}
use Rattle.lk_ast.specs.declared.place.Word.{Word as Named}
use Rattle.lk_ast.specs.declared.token.Token.{Token}
use Rattle.lk_ast.specs.declared.token.TokenKind.TheVariants.{Word, Sign}
use Rattle.lk_read.specs.Kinds.{word_of}
use Rattle.lk_read.proofs.Moves.{moved}
use Rattle.lk_grammar.specs.Expressions.{IsStatements}
use Rattle.lk_parts.specs.Parts.{chain, var_statement, plain_statement}
use Rattle.lk_parts.specs.declared.part.Statement.{Statement}
use Rattle.lk_print.specs.Printed.{form_of, name_kind}
use Rattle.lk_print.proofs.Goods.{constant, good_append}
use Rattle.lk_print.proofs.Levels.{of_node, same_of, form_is}
use Rattle.lk_print.proofs.Lists.{Each}
use Rattle.lk_print.proofs.Meant.{Written, block_written}
use Rattle.lk_print.proofs.Primaries.{IsNamed, named_token, bare_name}
use Rattle.lk_print.proofs.Spelled.{token, spelt_cons, spelt_append, spelt_so}
use Rattle.lk_scope.specs.Names.{Names, bind}
use Rattle.lk_scope.specs.Scoped.{scoped}

-- statements behind statements
follow : (u v : List Token) (ss ts : List Statement) → IsStatements u ss → IsStatements v ts → IsStatements (u ++ v) (ss ++ ts)
follow u _ ss _ d IsStatements.nil = moved IsStatements (append-nil u) (sym (append-nil ss)) d
follow y _ zs _ d (IsStatements.let_in {u} {v} k x q s {ss} {e} c g h i a j) = moved IsStatements (sym (append_assoc y u (k ∷ x ∷ q ∷ (v ++ s ∷ [])))) (append_assoc zs ss (var_statement k x e ∷ [])) (IsStatements.let_in k x q s (follow y u zs ss d c) g h i a j)
follow y _ zs _ d (IsStatements.plain {u} {v} s {ss} {e} c a j) = moved IsStatements (sym (append_assoc y u (v ++ s ∷ []))) (append_assoc zs ss (plain_statement e ∷ [])) (IsStatements.plain s (follow y u zs ss d c) a j)

pub var_written : (names : Names) (span : Span) (x : Named) (e rest : Expr) → IsNamed x.text → Written names e → Written (bind x names) rest → Written names (of_node span (node.Var x e rest))
unfolding word_of
var_written names span x e rest h p r = block_written names (of_node span (node.Var x e rest)) _ (form_is span (node.Var x e rest) (Node-F.Var x e rest) (node.rolls-Var x e rest)) (constant refl (Each.also h.good (constant refl (good_append (form_of e).alone p.good_alone (constant refl r.good_inside))))) (spelt_cons (λ k. spelt_cons (λ at. spelt_cons (λ q. spelt_append (form_of e).alone p.alone (λ t a. spelt_cons (λ s. spelt_so r.inside (λ w b.
    let first : List Token = token k (Word (codes "var")) ∷ token at (name_kind x) ∷ token q (Sign (codes "=")) ∷ (t ++ token s (Sign (codes ";")) ∷ []) in
    record {
      u = first ++ b.u;
      v = b.v;
      statements = var_statement (token k (Word (codes "var"))) (token at (name_kind x)) a.part ∷ b.statements;
      last = b.last;
      is = ap (λ z. token k (Word (codes "var")) ∷ token at (name_kind x) ∷ token q (Sign (codes "=")) ∷ (t ++ token s (Sign (codes ";")) ∷ z)) b.is
          ∙ sym (ap (λ z. token k (Word (codes "var")) ∷ token at (name_kind x) ∷ token q (Sign (codes "=")) ∷ z) (ap (λ z. z ++ b.v) (append_assoc t (token s (Sign (codes ";")) ∷ []) b.u) ∙ append_assoc t (token s (Sign (codes ";")) ∷ b.u) b.v));
      front = follow first b.u (var_statement (token k (Word (codes "var"))) (token at (name_kind x)) a.part ∷ []) b.statements
          (IsStatements.let_in (token k (Word (codes "var"))) (token at (name_kind x)) (token q (Sign (codes "="))) (token s (Sign (codes ";"))) IsStatements.nil refl (named_token at x.text h) refl a.is refl) b.front;
      back = b.back;
      same = same_of names _ span _ (node.Var x e rest) (Node-F.Var _ a.part.expr (chain b.statements b.last.to b.last.expr)) (Node-F.Var _ (scoped a.part.expr names) (scoped (chain b.statements b.last.to b.last.expr) (bind x names))) (Node-F.Var x e rest) (node.rolls-Var _ _ _) (sym (node.rolls-Var _ _ _)) (node.rolls-Var x e rest) (λ i. Node-F.Var (bare_name at x i) (a.same i) (b.same i));
    })))))))

pub seq_written : (names : Names) (span : Span) (e rest : Expr) → Written names e → Written names rest → Written names (of_node span (node.Seq e rest))
seq_written names span e rest p r = block_written names (of_node span (node.Seq e rest)) _ (form_is span (node.Seq e rest) (Node-F.Seq e rest) (node.rolls-Seq e rest)) (good_append (form_of e).alone p.good_alone (constant refl r.good_inside)) (spelt_append (form_of e).alone p.alone (λ t a. spelt_cons (λ s. spelt_so r.inside (λ w b.
    let first : List Token = t ++ token s (Sign (codes ";")) ∷ [] in
    record {
      u = first ++ b.u;
      v = b.v;
      statements = plain_statement a.part ∷ b.statements;
      last = b.last;
      is = ap (λ z. t ++ token s (Sign (codes ";")) ∷ z) b.is
          ∙ sym (ap (λ z. z ++ b.v) (append_assoc t (token s (Sign (codes ";")) ∷ []) b.u) ∙ append_assoc t (token s (Sign (codes ";")) ∷ b.u) b.v);
      front = follow first b.u (plain_statement a.part ∷ []) b.statements (IsStatements.plain (token s (Sign (codes ";"))) IsStatements.nil a.is refl) b.front;
      back = b.back;
      same = same_of names _ span _ (node.Seq e rest) (Node-F.Seq a.part.expr (chain b.statements b.last.to b.last.expr)) (Node-F.Seq (scoped a.part.expr names) (scoped (chain b.statements b.last.to b.last.expr) names)) (Node-F.Seq e rest) (node.rolls-Seq _ _) (sym (node.rolls-Seq _ _)) (node.rolls-Seq e rest) (λ i. Node-F.Seq (a.same i) (b.same i));
    }))))

-- The sign or word of an operator, the word before parentheses, and what binds a name in a block, as the code asks for them;
-- Printed has the claim.
use Rattle.std.specs.Prelude.{ℕ, List, [], ◌∷◌, Option, Some, None, codes}
use Rattle.lk_ast.specs.Layers.{Layer}
use Rattle.lk_ast.specs.declared.expression.Node.TheOpen.{Node-F}
use Rattle.lk_ast.specs.declared.place.Word.{Word as Named}
use Rattle.lk_ast.specs.declared.token.TokenKind.{TokenKind}
use Rattle.lk_ast.specs.declared.token.TokenKind.TheVariants.{Word, Sign}
use Rattle.lk_print.specs.Printed.{Kinds, name_kind}

abbrev pub operator_kind : Layer → TokenKind
operator_kind (Node-F.And a b) = Sign (codes "&&")
operator_kind (Node-F.Or a b) = Sign (codes "||")
operator_kind (Node-F.Concat a b) = Sign (codes "^^")
operator_kind (Node-F.Append a b) = Sign (codes "++")
operator_kind (Node-F.Cons a b) = Sign (codes "::")
operator_kind (Node-F.Add a b) = Sign (codes "+")
operator_kind (Node-F.Sub a b) = Sign (codes "-")
operator_kind (Node-F.Mul a b) = Sign (codes "*")
operator_kind (Node-F.Div a b) = Sign (codes "/")
operator_kind (Node-F.Eq a b) = Sign (codes "==")
operator_kind (Node-F.Ne a b) = Sign (codes "<>")
operator_kind (Node-F.Lt a b) = Sign (codes "<")
operator_kind (Node-F.Le a b) = Sign (codes "<=")
operator_kind (Node-F.Gt a b) = Sign (codes ">")
operator_kind (Node-F.Ge a b) = Sign (codes ">=")
operator_kind other = Word (codes "mod")

abbrev pub prefix_word : Layer → List ℕ
prefix_word (Node-F.Not e) = codes "not"
prefix_word (Node-F.Hd e) = codes "hd"
prefix_word (Node-F.Tl e) = codes "tl"
prefix_word (Node-F.Empty e) = codes "empty"
prefix_word (Node-F.IntToString e) = codes "intToString"
prefix_word other = codes "print"

-- var x =, where a statement binds a name
abbrev pub binder : Option Named → Kinds
binder None = []
binder (Some x) = Word (codes "var") ∷ name_kind x ∷ Sign (codes "=") ∷ []

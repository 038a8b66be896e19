-- Tables under their names.
use Rattle.std.proofs.Common.{◌≡◌, ◌∙◌, refl, ap, Bool, true, false, cond, List, [], ◌∷◌, ◌++◌, map, Option, Some, bytes_eq}
use Rattle.std.specs.List.{flat_map}
use Rattle.std.specs.Option.{option_map}
use Rattle.std.specs.Prelude.{find}
use Rattle.lk_ast.specs.declared.declaration.Decl.{Decl}
use Rattle.lk_ast.specs.declared.declaration.TableDecl.{TableDecl}
use Rattle.lk_types.specs.Rows.{Label}
use Rattle.lk_typing.specs.Names.{Named, named}
use Rattle.lk_ast.specs.Tables.{tables_in}
use Rattle.lk_equations.specs.Tabled.{AreNamed}
use denote.Ref.{Bor}

abbrev pub Under : Type 0
Under = Named (Bor TableDecl)

abbrev pub tables_under : Under → List TableDecl
tables_under es = map (λ entry. entry.1.now) es

-- ---- the first table of a name

first_if : (b : Bool) (t : Bor TableDecl) (p : Option (Bor TableDecl)) (q : Option TableDecl) → option_map (λ t. t.now) p ≡ q → option_map (λ t. t.now) (cond b (Some t) p) ≡ cond b (Some t.now) q
first_if true t p q same = refl
first_if false t p q same = same

pub first_named : (x : Label) (es : Under) → AreNamed es → option_map (λ t. t.now) (named x es) ≡ find (λ table. bytes_eq table.name.text x) (tables_under es)
first_named x [] are = refl
first_named x (e ∷ es) are =
    first_if (bytes_eq e.0 x) e.1 (named x es) (find (λ table. bytes_eq table.name.text x) (tables_under es)) (first_named x es are.1)
    ∙ ap (λ l. cond (bytes_eq l x) (Some e.1.now) (find (λ table. bytes_eq table.name.text x) (tables_under es))) are.0

-- ---- from the last declaration to the first

-- the tables of what is left, before those that are there, are the tables of all declarations
pub record AreLeft (es : Under) (left all : List Decl) : Type 0 where
  pub named : AreNamed es
  pub same : flat_map tables_in left ++ tables_under es ≡ flat_map tables_in all

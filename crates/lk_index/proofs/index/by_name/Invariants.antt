use Rattle.std.proofs.Common.{◌≡◌, ℕ, List, take}
use Rattle.std.specs.Borrow.{Bor}
use Rattle.lk_ast.specs.Functions.{is_named}
use Rattle.lk_ast.specs.declared.declaration.FunDef.{FunDef}
use Rattle.lk_index.specs.Free.{byte_order}
use Rattle.lk_index.specs.Places.{shown}
use Rattle.lk_index.proofs.Firsts.{first_or}
use Rattle.lk_index.proofs.index.by_name.Given as goal

abbrev pub invariant-loop-i : goal.invariant-loop-i
invariant-loop-i l = (name : Bor (List ℕ)) → first_or byte_order (λ name (f : FunDef). is_named name.now f) (λ f. f) (λ f. f.now) (shown (take l.i l.functions)) l.map name ≡ first_or byte_order (λ name (f : FunDef). is_named name.now f) (λ f. f) (λ f. f.now) (shown l.functions) l.initial.map name

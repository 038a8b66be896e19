use Rattle.std.proofs.Common.{◌≡◌, ◌++◌, drop, map}
use Rattle.lk_ast.specs.Functions.{functions_of}
use Rattle.lk_mono.specs.Members.{as_member, members_of}
use Rattle.lk_mono.proofs.member.Members.new.Given as goal

abbrev pub invariant-loop-function : goal.invariant-loop-function
invariant-loop-function l =
    map as_member l.list ++ members_of (map (λ f. f.now) l.function-iterator.a.rest.now) l.function-iterator.b.rest.now (drop l.from l.typed.types)
    ≡ members_of (functions_of l.program) l.typed.schemes l.typed.types

use Rattle.std.proofs.Common.{◌≡◌, drop}
use Rattle.std.specs.List.{list_all}
use Rattle.tree_cases.specs.Named.{scalar_declared}
use Rattle.lk_exec.specs.NamedTables.{names_declared}
use Rattle.lk_sql.specs.declared.tree.Out.{Out}
use Rattle.tree_cases.proofs.named.+named.Given as goal

abbrev pub invariant-selects_declared-loop-select : goal.invariant-selects_declared-loop-select
invariant-selects_declared-loop-select l = list_all (names_declared l.defs) (drop l.select-index l.selects) ≡ list_all (names_declared l.defs) l.selects

abbrev pub invariant-scalars_declared-loop-scalar : goal.invariant-scalars_declared-loop-scalar
invariant-scalars_declared-loop-scalar l = list_all (scalar_declared l.defs) (drop l.scalar-index l.scalars) ≡ list_all (scalar_declared l.defs) l.scalars

abbrev pub invariant-outs_declared-loop-out : goal.invariant-outs_declared-loop-out
invariant-outs_declared-loop-out l =
    list_all (λ (out : Out). scalar_declared l.defs out.scalar) (drop l.out-index l.outs) ≡ list_all (λ (out : Out). scalar_declared l.defs out.scalar) l.outs

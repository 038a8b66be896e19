-- The code of a program, from what is made of its ground program.
use Rattle.std.proofs.Common.{◌≡◌, sym, ap, subst, ◌∙◌, Some}
use Rattle.lk_ast.specs.Tables.{table_defs}
use Rattle.lk_ast.specs.declared.declaration.Program.{Program}
use Rattle.lk_ast.specs.declared.place.Loc.{Loc}
use Rattle.lk_ast.specs.declared.place.Loc.TheVariants.{Client, Server}
use Rattle.lk_code.specs.Running.{RunsAt}
use Rattle.lk_code.specs.Sound.{AreSound}
use Rattle.lk_code.specs.TypedLaw.{CallsLaw}
use Rattle.lk_code.specs.declared.tables.Contents.{Contents}
use Rattle.lk_compile.proofs.OfSites.{of_sites}
use Rattle.lk_compile.proofs.Running.{runs_at}
use Rattle.lk_compile.proofs.SameSessions.{is_lowered}
use Rattle.lk_compile.specs.Accepted.{IsTyped}
use Rattle.lk_compile.specs.Compiled.{AreParts, IsCodeOf}
use Rattle.lk_compile.specs.Sessions.{HasSessions}
use Rattle.lk_compile.specs.declared.compiling.Parts.{Parts}
use Rattle.lk_infer.specs.declared.typed.Typed.{Typed}
use Rattle.lk_ir.specs.Law.{ContinuesLaw}
use Rattle.lk_lowered.specs.Law.{EntersLaw, SessionsLaw, StandsLaw}

-- what is made of a ground program, as the code of this program
abbrev pub whole_of : Parts → Program → Contents
whole_of parts program = record { tables = parts.code.tables; blocks = parts.blocks; defs = parts.defs; origin = Some (record { program = program }) }

pub is_code : StandsLaw → CallsLaw → ContinuesLaw → SessionsLaw → EntersLaw → (p : Program) (typed : Typed) (parts : Parts) (program : Program) (c : Contents) → IsTyped p typed → (of : AreParts p typed parts) → HasSessions p of.ground parts.code.tables → AreSound parts.code.tables → program ≡ p → c ≡ whole_of parts program → IsCodeOf p c
is_code stands calls continues same_sessions enters p typed parts program c is_typed of sessions sound same made =
    let tables = of.are.tables in
    let runs : (place : Loc) → RunsAt (whole_of parts program) place = runs_at (whole_of parts program) of.queries stands of.ground sound tables of.are.blocks in
    subst (IsCodeOf p) (sym made) (record {
      typed = typed;
      is_typed = is_typed;
      ground = of.ground;
      is_ground = of.is_ground;
      queries = of.queries;
      are_queries = of.are_queries;
      cps = tables.cps;
      lowered = is_lowered p typed of.ground of.is_ground same_sessions enters tables.cps.forms tables.forms;
      continued = record { conts = tables.conts; order = tables.order; points = continues tables.cps.forms tables.cps.conts tables.conts.named };
      numbered = record { numbers = tables.numbers; calls = calls parts.code.tables };
      sessions = sessions;
      filled = record { defs = of.are.defs ∙ ap table_defs of.is_ground.grounded.program; blocks = of.are.blocks; program = ap (λ (q : Program). Some q) same };
      sites = of_sites p typed of.ground of.is_ground of.queries of.are_queries.meant (whole_of parts program) tables of.are.blocks;
      client = runs Client;
      server = runs Server;
    })

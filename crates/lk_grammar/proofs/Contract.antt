-- What the contract of `read_program` owes, from the laws of the reader of all tokens.
use Rattle.std.proofs.Common.{◌≡◌, ℕ, ◌+◌, ◌-◌, ◌≤◌, List, [], length, Ok, Err, arith}
use Rattle.lk_ast.specs.declared.declaration.Program.{Program}
use Rattle.lk_ast.specs.declared.token.Token.{Token}
use Rattle.lk_read.specs.Exact.{IsUnexpected, IsOnly}
use Rattle.lk_read.specs.declared.stop.Stop.TheVariants.{At, Spent}
use Rattle.lk_read.proofs.Top.{DecidesAll, finish_ends, is_only, unexpected, left_fits}
use Rattle.lk_grammar.specs.Programs.{IsProgram}
use Rattle.lk_grammar.specs.ReadingPrograms.{decls_with, program_at}
use Rattle.lk_grammar.proofs.CompletePrograms.{program_finds}
use Rattle.lk_grammar.proofs.RoomPrograms.{program-lasts}
use Rattle.lk_grammar.proofs.SoundPrograms.{program-reads}

program_ends : (n : ℕ) (ts rest : List Token) (p : Program) → program_at n ts ≡ Ok (p, rest) → rest ≡ []
unfolding program_at
program_ends n ts rest p h = finish_ends (decls_with n) ts rest p h

decides : (n : ℕ) → DecidesAll (program_at n) IsProgram
decides n = record { reads = program-reads n; finds = program_finds n; ends = program_ends n }

pub only_program : (n : ℕ) (ts : List Token) (p : Program) → program_at n ts ≡ Ok (p, []) → IsOnly IsProgram ts p
only_program n ts p h = is_only (program_at n) IsProgram (decides n) ts [] p h

pub left_within : (n left : ℕ) (ts : List Token) → program_at n ts ≡ Err (At left) → left ≤ length ts
left_within n left ts h = left_fits (program_at n) IsProgram (decides n) ts left h

pub refused_at : (n left : ℕ) (ts : List Token) → program_at n ts ≡ Err (At left) → IsUnexpected IsProgram ts (length ts - left)
refused_at n left ts h = unexpected (program_at n) IsProgram (decides n) ts left h

pub room_lasts : (ts : List Token) → program_at (length ts + 1) ts ≡ Err Spent → ⊥
room_lasts ts h = program-lasts (length ts + 1) ts (omega arith) h

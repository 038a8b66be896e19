-- What the contracts of `read_sig` and `read_type` owe, from the laws of the reader of all tokens.
use Rattle.std.proofs.Common.{◌≡◌, ℕ, ◌+◌, ◌-◌, ◌<◌, ◌≤◌, List, [], length, Result, Ok, Err, IfErr, IfOk, refl, ◌∙◌, arith}
use Rattle.std.proofs.lemmas.List.{append-nil}
use Rattle.std.specs.Borrow.{Bor}
use Rattle.lk_ast.specs.declared.signature.SigType.{SigType}
use Rattle.lk_ast.specs.declared.token.Token.{Token}
use Rattle.lk_read.specs.Exact.{IsUnexpected, IsFront, IsOnly}
use Rattle.lk_read.specs.Gives.{Gives}
use Rattle.lk_read.specs.Reader.{finish}
use Rattle.lk_read.specs.declared.stop.Stop.{Stop}
use Rattle.lk_read.specs.declared.stop.Stop.TheVariants.{At, NoMemory, Spent}
use Rattle.lk_read.proofs.Below.{◌⊑◌, bind-finds}
use Rattle.lk_read.proofs.Laws.{Reads, Just, weaken, bind-reads}
use Rattle.lk_read.proofs.Moves.{moved, after, along}
use Rattle.lk_read.proofs.Top.{DecidesAll, finish-reads, finish_finds, finish_ends, is_only, unexpected, left_fits}
use Rattle.lk_rows.specs.Reading.{type_at, sig_at}
use Rattle.lk_rows.specs.Types.{IsType}
use Rattle.lk_rows.proofs.Sound.{type_at-reads}
use Rattle.lk_rows.proofs.Complete.{type_finds, whole}
use Rattle.lk_rows.proofs.Room.{sig-lasts, type_at-lasts}

sig-reads : (n : ℕ) → Reads (sig_at n) IsType
unfolding sig_at
sig-reads n = weaken _ IsType (bind-reads (type_at n) (λ ty. finish ty) IsType Just (type_at-reads n) (λ ty. finish-reads ty))
    (λ w x h. moved IsType (h.is ∙ after h.u h.snd.0 ∙ append-nil h.u) h.snd.1 h.fst)

sig_finds : (n : ℕ) (w : List Token) (ty : SigType) → IsType w ty → sig_at n w ⊑ Ok (ty, [])
unfolding sig_at
sig_finds n w ty d = bind-finds (type_at n) (λ x. finish x) w (along (type_at n) _ (append-nil w) (whole w ty (type_finds d) n [] refl)) (finish_finds ty)

sig_ends : (n : ℕ) (ts rest : List Token) (ty : SigType) → sig_at n ts ≡ Ok (ty, rest) → rest ≡ []
unfolding sig_at
sig_ends n ts rest ty h = finish_ends (type_at n) ts rest ty h

decides : (n : ℕ) → DecidesAll (sig_at n) IsType
decides n = record { reads = sig-reads n; finds = sig_finds n; ends = sig_ends n }

pub only_sig : (n : ℕ) (ts : List Token) (ty : SigType) → sig_at n ts ≡ Ok (ty, []) → IsOnly IsType ts ty
only_sig n ts ty h = is_only (sig_at n) IsType (decides n) ts [] ty h

pub left_within : (n left : ℕ) (ts : List Token) → sig_at n ts ≡ Err (At left) → left ≤ length ts
left_within n left ts h = left_fits (sig_at n) IsType (decides n) ts left h

pub refused_at : (n left : ℕ) (ts : List Token) → sig_at n ts ≡ Err (At left) → IsUnexpected IsType ts (length ts - left)
refused_at n left ts h = unexpected (sig_at n) IsType (decides n) ts left h

pub room_lasts : (ts : List Token) → sig_at (length ts + 1) ts ≡ Err Spent → ⊥
room_lasts ts h = sig-lasts (length ts + 1) ts (omega arith) h

-- with room for more than the tokens it isn't room that is wanted
pub roomy : (n : ℕ) (ts : List Token) (result : Result (SigType × Bor (List Token)) Stop) → Gives result (type_at n ts) → length ts < n → IfErr result (λ why. why ≡ Spent → ⊥)
roomy n ts (Ok read) h lt = tt
roomy n ts (Err Spent) h lt = λ is. type_at-lasts n ts lt h
roomy n ts (Err NoMemory) h lt = λ is. absurd cc
roomy n ts (Err (At left)) h lt = λ is. absurd cc

-- what is read off the front of the tokens
pub fronts : (n : ℕ) (ts : List Token) (result : Result (SigType × Bor (List Token)) Stop) → Gives result (type_at n ts) → IfOk result (λ read. IsFront IsType ts read.0 read.1.now)
fronts n ts (Ok read) h = let found = (type_at-reads n).found ts read.1.now read.0 h in (found.front, found.is, found.holds)
fronts n ts (Err why) h = tt

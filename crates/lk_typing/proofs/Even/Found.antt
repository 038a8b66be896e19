-- Sets of effects for the variables of a walk, found one after another: those for earlier numbers stay as they are.
use Rattle.std.proofs.Common.{◌≡◌, ℕ, ◌+◌, ◌<◌, ◌≤◌, zero, suc, List, [], ◌∷◌, length, refl, subst, ap, ◌∙◌}
use native.Mathlib.Omega.{arith}
use Rattle.lk_types.specs.Rows.{EffectSet, no_effects}

-- the effects before the tail with that number
abbrev pub Before : Type 0
Before = ℕ → EffectSet

-- the same for all numbers below
pub record Alike (n : ℕ) (b c : Before) : Type 0 where
  pub below : (v : ℕ) → v < n → c v ≡ b v

-- it holds whatever goes with the numbers from n on
pub record Stays (n : ℕ) (b : Before) (P : Before → Type 0) : Type 0 where
  pub at : (c : Before) → Alike n b c → P c

-- sets for the numbers from n to m, with which it holds whatever goes with those behind
pub record Found (n : ℕ) (b : Before) (m : ℕ) (P : Before → Type 0) : Type 0 where
  pub after : Before
  pub reaches : n ≤ m
  pub same : Alike n b after
  pub holds : Stays m after P

itself : (n : ℕ) (b : Before) → Alike n b b
itself n b = record { below = λ v less. refl }

in_turn : {n m : ℕ} {b c d : Before} → n ≤ m → Alike n b c → Alike m c d → Alike n b d
in_turn less first next = record { below = λ v below. next.below v (omega arith) ∙ first.below v below }

pub now : {n : ℕ} {b : Before} {P : Before → Type 0} → Stays n b P → P b
now {n} {b} stays = stays.at b (itself n b)

pub weaker : {n : ℕ} {b : Before} {P Q : Before → Type 0} → Stays n b P → ((c : Before) → P c → Q c) → Stays n b Q
weaker stays then = record { at = λ c alike. then c (stays.at c alike) }

pub nothing_known : (n : ℕ) (b : Before) → Stays n b (λ c. Unit {0})
nothing_known n b = record { at = λ c alike. tt }

pub mapped : {n m : ℕ} {b : Before} {P Q : Before → Type 0} → Found n b m P → ((c : Before) → P c → Q c) → Found n b m Q
mapped found then = record { after = found.after; reaches = found.reaches; same = found.same; holds = weaker found.holds then }

-- the same where one number more comes behind, whatever its set is
pub one_further : {n m : ℕ} {b : Before} {P : Before → Type 0} → Found n b m P → Found n b (1 + m) P
one_further {n} {m} found =
    let reaches : n ≤ m = found.reaches in
    record {
      after = found.after;
      reaches = omega arith;
      same = found.same;
      holds = record { at = λ c alike. found.holds.at c (record { below = λ v less. alike.below v (omega arith) }) };
    }

-- what holds whatever goes with the next numbers
pub here : {n : ℕ} {b : Before} {P : Before → Type 0} → Stays n b P → Found n b n P
here {n} {b} stays = record { after = b; reaches = omega arith; same = itself n b; holds = stays }

-- first sets with which one thing holds, and then, knowing it, sets with which another one does
pub follow : {n m k : ℕ} {b : Before} {K P Q : Before → Type 0} → Stays n b K → Found n b m P
    → ((c : Before) → Stays m c (λ d. K d × P d) → Found m c k Q) → Found n b k (λ d. (K d × P d) × Q d)
follow {n} {m} {k} {b} {K} {P} {Q} known first next =
    let both : Stays m first.after (λ d. K d × P d) = record { at = λ d alike. (known.at d (in_turn first.reaches first.same alike), first.holds.at d alike) } in
    let second : Found m first.after k Q = next first.after both in
    let less : n ≤ m = first.reaches in
    let more : m ≤ k = second.reaches in
    record {
      after = second.after;
      reaches = omega arith;
      same = in_turn less first.same second.same;
      holds = record { at = λ d alike. (both.at d (in_turn more second.same alike), second.holds.at d alike) };
    }

-- the same, where only the second one is looked for
pub onward : {n m k : ℕ} {b : Before} {K P Q : Before → Type 0} → Stays n b K → Found n b m P
    → ((c : Before) → Stays m c (λ d. K d × P d) → Found m c k Q) → Found n b k Q
onward known first next = mapped (follow known first next) (λ c all. all.1)

-- what is known beside what is found
pub beside : {n m : ℕ} {b : Before} {K P : Before → Type 0} → Stays n b K → Found n b m P → Found n b m (λ d. K d × P d)
beside known found = record {
  after = found.after;
  reaches = found.reaches;
  same = found.same;
  holds = record { at = λ d alike. (known.at d (in_turn found.reaches found.same alike), found.holds.at d alike) };
}

-- ---- new numbers

-- those of b below n, and behind it others, numbered from there
abbrev placed_at : ℕ → Before → Before → Before
placed_at zero b others v = others v
placed_at (suc n) b others zero = b zero
placed_at (suc n) b others (suc v) = placed_at n (λ k. b (suc k)) others v

still_below : (n : ℕ) (b others : Before) (v : ℕ) → v < n → placed_at n b others v ≡ b v
still_below zero b others v less = absurd (none_below v less)
  where
    none_below : (v : ℕ) → v < 0 → ⊥
    none_below v less = omega arith
still_below (suc n) b others zero less = refl
still_below (suc n) b others (suc v) less = still_below n (λ k. b (suc k)) others v (omega arith)

placed_behind : (n : ℕ) (b others : Before) (v : ℕ) → placed_at n b others (n + v) ≡ others v
placed_behind zero b others v = let same : 0 + v ≡ v = omega arith in ap others same
placed_behind (suc n) b others v = let same : suc n + v ≡ suc (n + v) = omega arith in ap (placed_at (suc n) b others) same ∙ placed_behind n (λ k. b (suc k)) others v

-- these sets for the next numbers
pub placed : (n m : ℕ) (b others : Before) → n ≤ m → Found n b m (λ c. (v : ℕ) → n + v < m → c (n + v) ≡ others v)
placed n m b others reaches = record {
  after = placed_at n b others;
  reaches = reaches;
  same = record { below = still_below n b others };
  holds = record { at = λ c alike v less. alike.below (n + v) less ∙ placed_behind n b others v };
}

-- a new number with that set
pub new : (n : ℕ) (b : Before) (s : EffectSet) → Found n b (1 + n) (λ c. c n ≡ s)
new n b s = mapped (placed n (1 + n) b (λ v. s) (omega arith)) (λ c all. (let same : n + 0 ≡ n = omega arith in subst (λ k. c k ≡ s) same (all 0 (omega arith))))

-- numbers whose sets don't matter
pub any_sets : (n m : ℕ) (b : Before) → n ≤ m → Found n b m (λ c. Unit {0})
any_sets n m b reaches = mapped (placed n m b (λ v. no_effects) reaches) (λ c all. tt)

-- these go with the numbers from that one on
abbrev pub Has : Before → ℕ → List EffectSet → Type 0
Has c n [] = Unit {0}
Has c n (s ∷ ss) = (c n ≡ s) × Has c (1 + n) ss

-- as many new numbers with these sets
pub new_sets : (ss : List EffectSet) (n m : ℕ) (b : Before) → m ≡ length ss + n → Found n b m (λ c. Has c n ss)
new_sets [] n m b is = any_sets n m b (omega arith)
new_sets (s ∷ ss) n m b is =
    let more : m ≡ length ss + (1 + n) = omega arith in
    mapped (follow (nothing_known n b) (new n b s) (λ c known. new_sets ss (1 + n) m c more)) (λ c both. (both.0.1, both.1))

-- How many transactions are committed after more events.
use Rattle.std.proofs.Common.{◌≡◌, ℕ, List, [], ◌∷◌, ◌++◌, refl, sym, ◌∙◌, ap}
use Rattle.lk_ast.specs.declared.event.Event.{Event}
use Rattle.lk_ast.specs.declared.event.Event.TheVariants as event
use Rattle.lk_ast.specs.declared.table.Row.{Row}
use Rattle.lk_ast.specs.declared.value.Value.{Value}
use Rattle.lk_outside.specs.Causes.{next_count}
use Rattle.lk_sound.specs.Histories.{GoesQuietly, IsQuiet, read_event, write_event}
use Rattle.lk_sem.specs.SourceRuns.{commits_after}
use Rattle.lk_types.specs.Each.{Each}

commits_both : (front back : List Event) (count : ℕ) → commits_after (front ++ back) count ≡ commits_after back (commits_after front count)
commits_both [] back count = refl
commits_both (event.Print bytes ∷ front) back count = commits_both front back count
commits_both (event.Enter ∷ front) back count = commits_both front back count
commits_both (event.Leave ∷ front) back count = commits_both front back count
commits_both (event.Read e ∷ front) back count = commits_both front back (next_count count)
commits_both (event.Write e ∷ front) back count = commits_both front back (next_count count)

none_quietly : (more : List Event) (count : ℕ) → Each IsQuiet more → commits_after more count ≡ count
none_quietly [] count calm = refl
none_quietly (event.Print bytes ∷ more) count calm = none_quietly more count calm.1
none_quietly (event.Enter ∷ more) count calm = none_quietly more count calm.1
none_quietly (event.Leave ∷ more) count calm = none_quietly more count calm.1
none_quietly (event.Read e ∷ more) count calm = absurd calm.0
none_quietly (event.Write e ∷ more) count calm = absurd calm.0

-- `old` transactions were committed at first, and `count` behind these events
module _ (old count : ℕ) where
  -- nothing of tables was done
  pub commits_quietly : (before after : List Event) → GoesQuietly before after → count ≡ commits_after before old → count ≡ commits_after after old
  commits_quietly before after q is = is ∙ sym (ap (λ l. commits_after l old) q.log ∙ commits_both before q.more old ∙ none_quietly q.more (commits_after before old) q.quiet)

  -- one more was committed, a reading
  pub commits_read : (log : List Event) (site : ℕ) (args : List Value) (rows : List Row) (new : ℕ) → count ≡ commits_after log old → new ≡ next_count count → new ≡ commits_after (log ++ read_event site args rows ∷ []) old
  commits_read log site args rows new is one = one ∙ ap next_count is ∙ sym (commits_both log (read_event site args rows ∷ []) old)

  -- or a writing
  pub commits_write : (log : List Event) (site : ℕ) (args : List Value) (new : ℕ) → count ≡ commits_after log old → new ≡ next_count count → new ≡ commits_after (log ++ write_event site args ∷ []) old
  commits_write log site args new is one = one ∙ ap next_count is ∙ sym (commits_both log (write_event site args ∷ []) old)

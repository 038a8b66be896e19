use Rattle.std.proofs.Common.{◌≡◌, ℕ, ◌<◌, ◌≤◌, true, Some}
use Rattle.lk_code.specs.Running.{HasHome, is_at}
use Rattle.lk_code.specs.Tables.{first_frame, frame_info}
use Rattle.lk_code.specs.declared.infos.FrameInfo.{FrameInfo}
use Rattle.lk_code.proofs.runs.frames_run_at.Given as goal

-- those so far
abbrev pub invariant-loop-number : goal.invariant-loop-number
invariant-loop-number l = (number : ℕ) → number < l.number → (i : FrameInfo) → frame_info l.c.tables number ≡ Some i → first_frame l.c.tables ≤ number → is_at i.place l.place ≡ true → HasHome l.c number

use Rattle.lk_course.proofs.Agreeing.{agreement_law}
use Rattle.lk_course.proofs.Counts.{counting_law}
use Rattle.lk_course.proofs.Happening.{events_law}
use Rattle.lk_course.proofs.Lately.{later_law}
use Rattle.lk_course.proofs.Sessions.{client_law}
use Rattle.lk_course.proofs.Visits.{goes_on_law, visit_law}
use Rattle.lk_course.proofs.law.course_laws.Goals as goal

pub returns : goal.returns
returns c = record {
  client = client_law;
  visits = visit_law;
  goes_on = goes_on_law;
  events = events_law;
  later = later_law;
  counts = counting_law;
  agrees = agreement_law;
}

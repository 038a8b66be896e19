-- Replies: how they are judged by their heads, and the verdict on their bytes.
use Rattle.std.specs.Prelude.{ℕ, Result, Ok, Err}
use Rattle.httparse.specs.Grammar.{ResponseHead, ReadsResponse, MayBecomeResponse, print_response, status_code}
use Rattle.lk_http.specs.Fields.{body_length}
use Rattle.lk_http.specs.Verdicts.{Kind}
use Rattle.lk_http.specs.declared.fault.LengthFault.{LengthFault}
use Rattle.lk_http.specs.declared.fault.LengthFault.TheVariants.{Missing, Malformed, Large}
use Rattle.lk_http.specs.declared.verdict.ReplyFed.{ReplyFed}
use Rattle.lk_http.specs.declared.verdict.ReplyFed.TheVariants as fed
use Rattle.lk_http.specs.declared.verdict.ReplyKind.{ReplyKind}
use Rattle.lk_http.specs.declared.verdict.ReplyKind.TheVariants as kinds

-- what is wrong with a reply for what its head says of the length of its body
abbrev pub kind_of : LengthFault → ReplyKind
kind_of Missing = kinds.Length
kind_of Malformed = kinds.Length
kind_of Large = kinds.Large

abbrev pub length_or_kind : Result ℕ LengthFault → Result ℕ ReplyKind
length_or_kind (Ok n) = Ok n
length_or_kind (Err fault) = Err (kind_of fault)

-- replies, as they are read: any status will do, and any fields beside Content-Length
abbrev pub replies : Kind ReplyFed ReplyKind
replies = record {
  Head = ResponseHead;
  Reads = ReadsResponse;
  text = print_response;
  fields = λ h. h.fields;
  MayBecome = MayBecomeResponse;
  judged = λ h. length_or_kind (body_length h.fields);
  more = fed.More;
  done = λ h body. fed.Done (status_code h) body;
  refused = λ why. fed.Bad why;
  bad = kinds.Head;
  too_large = kinds.Head;
}

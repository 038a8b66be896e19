-- The heads of written replies.
use Rattle.std.proofs.Common.{◌≡◌, Bool, true, false, ◌==◌, ◌||◌, ◌<◌, ◌≤◌, ◌^◌, ℕ, List, [], ◌∷◌, ◌++◌, length, drop, Ok, Some, refl, sym, ap, ap₂, ◌∙◌, subst, arith, append_assoc, append-nil, codes, decimal, length-append}
use Rattle.std.specs.Prelude.{All, ⊤}
use Rattle.std.specs.Char.{is_ascii_digit}
use Rattle.std.specs.List.{list_all, list_any}
use Rattle.std.specs.Str.Parse.{digits_value}
use Rattle.std.proofs.lemmas.Bool.Decides.{nat_tests}
use Rattle.std.proofs.lemmas.Fmt.{length-decimal-le}
use Rattle.std.proofs.lemmas.List.{take-append-drop}
use Rattle.std.proofs.lemmas.List.Elements.{All-cons}
use Rattle.std.proofs.lemmas.List.Sums.{AllPass-from_list_all}
use Rattle.httparse.specs.Grammar.{Field, IsField, IsResponseHead, ReadsResponse, ResponseHead, crlf, is_token_byte, is_value_byte, print_response, status_code, trim_ows}
use Rattle.lk_http.proofs.Digits.{length_digits, trimmed_digits, value_digits}
use Rattle.lk_http.proofs.FieldTexts.{are_last_fields, field, known, last_fields, seam}
use Rattle.lk_http.proofs.Texts.{IsHeadText}
use Rattle.lk_http.specs.Fields.{length_in}
use Rattle.lk_ast.specs.Limits.{message_limit}
use Rattle.lk_http.specs.Limits.{head_limit}
use Rattle.lk_http.specs.Replies.{length_or_kind, replies}
use Rattle.lk_http.specs.Written.{allow_line, is_status, reply_head, status_text, statuses}

-- with the field Allow, or without it
abbrev fields_by : Bool → List Field → List Field
fields_by true fields = field (codes "Allow") (codes "POST") ∷ fields
fields_by false fields = fields

abbrev line_by : Bool → List ℕ
line_by true = codes "Allow: POST\r\n"
line_by false = []

-- what is known of each status
pub record IsStatus (status : ℕ) : Type 0 where
  code : List ℕ
  reason : List ℕ
  allows : Bool
  text : status_text status ≡ code ++ 32 ∷ reason
  line : allow_line status ≡ line_by allows
  value : digits_value 10 code ≡ status
  three : length code ≡ 3
  digits : list_all is_ascii_digit code ≡ true
  pass : list_all is_value_byte reason ≡ true
  few : length reason ≤ 40

abbrev EachIs : (ℕ → Type 0) → List ℕ → Type 0
EachIs P [] = ⊤
EachIs P (n ∷ ns) = P n × EachIs P ns

among : (P : ℕ → Type 0) (ns : List ℕ) (n : ℕ) → EachIs P ns → list_any (λ known. known == n) ns ≡ true → P n
among P [] n each is = absurd cc
among P (k ∷ ns) n each is = go (k == n) refl (among P ns n each.1)
  where
    go : (b : Bool) → (k == n) ≡ b → (list_any (λ known. known == n) ns ≡ true → P n) → P n
    go true same later = let e : k ≡ n = grind (arith, nat_tests) in subst P e each.0
    go false other later = later (sym (ap (λ b. b || list_any (λ known. known == n) ns) other) ∙ is)

plain : (status : ℕ) (code reason : List ℕ) → status_text status ≡ code ++ 32 ∷ reason → allow_line status ≡ [] → digits_value 10 code ≡ status → length code ≡ 3 → list_all is_ascii_digit code ≡ true → list_all is_value_byte reason ≡ true → length reason ≤ 40 → IsStatus status
plain status code reason text line value three digits pass few = record { code = code; reason = reason; allows = false; text = text; line = line; value = value; three = three; digits = digits; pass = pass; few = few }

each_status : EachIs IsStatus statuses
each_status = (
  plain 200 (codes "200") (codes "OK") refl refl refl refl refl refl (omega arith),
  (
    plain 400 (codes "400") (codes "Bad Request") refl refl refl refl refl refl (omega arith),
    (
      plain 404 (codes "404") (codes "Not Found") refl refl refl refl refl refl (omega arith),
      (
        record { code = codes "405"; reason = codes "Method Not Allowed"; allows = true; text = refl; line = refl; value = refl; three = refl; digits = refl; pass = refl; few = omega arith },
        (
          plain 411 (codes "411") (codes "Length Required") refl refl refl refl refl refl (omega arith),
          (
            plain 413 (codes "413") (codes "Content Too Large") refl refl refl refl refl refl (omega arith),
            (
              plain 431 (codes "431") (codes "Request Header Fields Too Large") refl refl refl refl refl refl (omega arith),
              (
                plain 500 (codes "500") (codes "Internal Server Error") refl refl refl refl refl refl (omega arith),
                (
                  plain 501 (codes "501") (codes "Not Implemented") refl refl refl refl refl refl (omega arith),
                  (plain 503 (codes "503") (codes "Service Unavailable") refl refl refl refl refl refl (omega arith), tt),
                ),
              ),
            ),
          ),
        ),
      ),
    ),
  ),
)

pub status_is : (status : ℕ) → is_status status ≡ true → IsStatus status
status_is status is = among IsStatus statuses status each_status is

-- the head, by its status and the digits of the length
abbrev tree : List ℕ → List ℕ → Bool → List ℕ → ResponseHead
tree code reason allows digits = record {
  blank = [];
  minor = 1;
  digits = code;
  reason = Some reason;
  line_end = crlf;
  fields = fields_by allows (last_fields digits);
  last = crlf;
}

abbrev lines : List ℕ → List ℕ
lines digits = codes "Content-Type: application/json\r\nContent-Length: " ++ (digits ++ codes "\r\nConnection: close\r\n\r\n")

text_by : (code reason : List ℕ) (allows : Bool) (digits : List ℕ) → print_response (tree code reason allows digits)
    ≡ codes "HTTP/1.1 " ++ ((code ++ 32 ∷ reason) ++ (codes "\r\n" ++ (line_by allows ++ lines digits)))
unfolding print_response
text_by code reason true digits =
    ap (λ t. codes "HTTP/1.1 " ++ t) (append_assoc (code ++ 32 ∷ reason) (codes "\r\n") _
    ∙ ap (λ t. (code ++ 32 ∷ reason) ++ (codes "\r\n" ++ (codes "Allow: POST\r\n" ++ (codes "Content-Type: application/json\r\nContent-Length: " ++ t)))) (seam digits (codes "\r\n") (codes "Connection: close\r\n") (codes "\r\n")))
text_by code reason false digits =
    ap (λ t. codes "HTTP/1.1 " ++ t) (append_assoc (code ++ 32 ∷ reason) (codes "\r\n") _
    ∙ ap (λ t. (code ++ 32 ∷ reason) ++ (codes "\r\n" ++ (codes "Content-Type: application/json\r\nContent-Length: " ++ t))) (seam digits (codes "\r\n") (codes "Connection: close\r\n") (codes "\r\n")))

fields_are : (allows : Bool) (fields : List Field) → All IsField fields → All IsField (fields_by allows fields)
unfolding is_token_byte
fields_are true fields all = All-cons IsField (field (codes "Allow") (codes "POST")) fields (known (codes "Allow") (codes "POST") refl refl refl) all
fields_are false fields all = all

few_by : (allows : Bool) (digits : List ℕ) → length (fields_by allows (last_fields digits)) ≤ 4
few_by true digits = omega arith
few_by false digits = omega arith

line_short : (allows : Bool) → length (line_by allows) ≤ 13
line_short true = omega arith
line_short false = omega arith

judged_by : (allows : Bool) (digits : List ℕ) (code reason : List ℕ) → replies.judged (tree code reason allows digits) ≡ length_or_kind (length_in (trim_ows (32 ∷ digits)))
judged_by true digits code reason = refl
judged_by false digits code reason = refl

-- the head of a reply of this status, whose body has n bytes
abbrev pub reply_tree : (status : ℕ) → IsStatus status → ℕ → ResponseHead
reply_tree status line n = tree line.code line.reason line.allows (decimal n)

is_head : (status : ℕ) (line : IsStatus status) (n : ℕ) → n < 2 ^ 64 → IsResponseHead (reply_tree status line n)
is_head status line n small = record {
  minor = omega arith;
  digits = (line.three, AllPass-from_list_all is_ascii_digit line.code line.digits);
  reason = AllPass-from_list_all is_value_byte line.reason line.pass;
  fields = fields_are line.allows (last_fields (decimal n)) (are_last_fields (decimal n) (value_digits n small));
}

text_is : (status : ℕ) (line : IsStatus status) (n : ℕ) → print_response (reply_tree status line n) ≡ reply_head status n
text_is status line n =
    text_by line.code line.reason line.allows (decimal n)
    ∙ ap₂ (λ text allow. codes "HTTP/1.1 " ++ (text ++ (codes "\r\n" ++ (allow ++ lines (decimal n))))) (sym line.text) (sym line.line)

reads : (status : ℕ) (line : IsStatus status) (n : ℕ) → n < 2 ^ 64 → ReadsResponse (reply_head status n) (reply_tree status line n) []
reads status line n small = (is_head status line n small, sym (append-nil (print_response (reply_tree status line n)) ∙ text_is status line n))

short : (status : ℕ) (line : IsStatus status) (n : ℕ) → n ≤ message_limit → length (reply_head status n) ≤ head_limit
short status line n few =
    omega (
      arith,
      line.few,
      line.three,
      line_short line.allows,
      length-decimal-le 7 n (omega arith) (omega (arith, few)) (omega (arith, few)),
      ap length line.text,
      length-append line.code (32 ∷ line.reason),
      ap length line.line,
      length-append (codes "HTTP/1.1 ") (status_text status ++ (codes "\r\n" ++ (allow_line status ++ lines (decimal n)))),
      length-append (status_text status) (codes "\r\n" ++ (allow_line status ++ lines (decimal n))),
      length-append (codes "\r\n") (allow_line status ++ lines (decimal n)),
      length-append (allow_line status) (lines (decimal n)),
      length-append (codes "Content-Type: application/json\r\nContent-Length: ") (decimal n ++ codes "\r\nConnection: close\r\n\r\n"),
      length-append (decimal n) (codes "\r\nConnection: close\r\n\r\n"),
    )

pub is_text : (status : ℕ) (line : IsStatus status) (n : ℕ) → n ≤ message_limit → IsHeadText replies (reply_head status n) (reply_tree status line n)
is_text status line n few =
    let small : n < 2 ^ 64 = omega (arith, few) in
    record {
      reads = reads status line n small;
      is = text_is status line n;
      few = omega (arith, few_by line.allows (decimal n));
      short = short status line n few;
      may = λ k. (drop k (reply_head status n), reply_tree status line n, subst (λ b. ReadsResponse b (reply_tree status line n) []) (sym (take-append-drop k (reply_head status n))) (reads status line n small));
    }

pub judged_is : (status : ℕ) (line : IsStatus status) (n : ℕ) → n ≤ message_limit → replies.judged (reply_tree status line n) ≡ Ok n
judged_is status line n few =
    judged_by line.allows (decimal n) line.code line.reason ∙ ap (λ value. length_or_kind (length_in value)) (trimmed_digits n (omega (arith, few))) ∙ ap length_or_kind (length_digits n few)

pub status_tells : (status : ℕ) (line : IsStatus status) (n : ℕ) → status_code (reply_tree status line n) ≡ status
status_tells status line n = line.value

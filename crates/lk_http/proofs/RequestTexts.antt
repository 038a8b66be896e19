-- The head of a written request.
use Rattle.std.proofs.Common.{rules, ◌≡◌, inl, ◌<◌, ◌≤◌, ◌^◌, ℕ, List, [], ◌∷◌, ◌++◌, drop, Ok, refl, sym, ap, ◌∙◌, subst, arith, append-nil, codes, decimal, length-append}
use Rattle.std.proofs.lemmas.Fmt.{length-decimal-le}
use Rattle.std.proofs.lemmas.List.{take-append-drop}
use Rattle.std.proofs.lemmas.List.Elements.{All-cons}
use Rattle.httparse.specs.Grammar.{IsField, IsRequestHead, ReadsRequest, RequestHead, crlf, is_token_byte, print_request}
use Rattle.lk_http.proofs.Digits.{length_digits, trimmed_digits, value_digits}
use Rattle.lk_http.proofs.FieldTexts.{are_last_fields, field, is_token, known, last_fields, seam}
use Rattle.lk_http.proofs.Texts.{IsHeadText}
use Rattle.lk_http.specs.Fields.{length_in}
use Rattle.lk_ast.specs.Limits.{message_limit}
use Rattle.lk_http.specs.Requests.{judged, length_or_refusal, requests}
use Rattle.lk_http.specs.Written.{request_head}

-- the head, by the digits of the length
abbrev pub tree : List ℕ → RequestHead
tree digits = record {
  blank = [];
  method = codes "POST";
  target = codes "/links";
  minor = 1;
  line_end = crlf;
  fields = field (codes "Host") (codes "localhost") ∷ last_fields digits;
  last = crlf;
}

abbrev opening : List ℕ
opening = codes "POST /links HTTP/1.1\r\nHost: localhost\r\nContent-Type: application/json\r\nContent-Length: "

abbrev closing : List ℕ
closing = codes "\r\nConnection: close\r\n\r\n"

text_is : (digits : List ℕ) → print_request (tree digits) ≡ opening ++ (digits ++ closing)
unfolding print_request
text_is digits = ap (λ t. opening ++ t) (seam digits (codes "\r\n") (codes "Connection: close\r\n") (codes "\r\n"))

is_head : (n : ℕ) → n < 2 ^ 64 → IsRequestHead (tree (decimal n))
unfolding is_token_byte
is_head n small = record {
  method = is_token (codes "POST") refl refl;
  target = (omega arith, search rules);
  target_text = search rules;
  minor = omega arith;
  fields = All-cons IsField (field (codes "Host") (codes "localhost")) (last_fields (decimal n)) (known (codes "Host") (codes "localhost") refl refl refl) (are_last_fields (decimal n) (value_digits n small));
}

reads : (n : ℕ) → n < 2 ^ 64 → ReadsRequest (request_head n) (tree (decimal n)) []
reads n small = (is_head n small, sym (append-nil (print_request (tree (decimal n))) ∙ text_is (decimal n)))

pub is_text : (n : ℕ) → n ≤ message_limit → IsHeadText requests (request_head n) (tree (decimal n))
is_text n few =
    let small : n < 2 ^ 64 = omega (arith, few) in
    record {
      reads = reads n small;
      is = text_is (decimal n);
      few = omega arith;
      short = omega (arith, length-append opening (decimal n ++ closing), length-append (decimal n) closing, length-decimal-le 7 n (omega arith) (omega (arith, few)) small);
      may = λ k. inl (drop k (request_head n), tree (decimal n), subst (λ b. ReadsRequest b (tree (decimal n)) []) (sym (take-append-drop k (request_head n))) (reads n small));
    }

pub judged_is : (n : ℕ) → n ≤ message_limit → judged (tree (decimal n)) ≡ Ok n
judged_is n few = ap (λ value. length_or_refusal (length_in value)) (trimmed_digits n (omega (arith, few))) ∙ ap length_or_refusal (length_digits n few)

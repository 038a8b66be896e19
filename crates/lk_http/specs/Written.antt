-- Messages as they are written (RFC 9112, sections 3 to 6).
use Rattle.std.specs.Prelude.{ℕ, ◌==◌, Bool, List, [], ◌∷◌, ◌++◌, length, codes, decimal, if◌then◌else◌}
use Rattle.std.specs.List.{list_any}
use Rattle.lk_http.specs.declared.refusal.HttpRefusal.{HttpRefusal}
use Rattle.lk_http.specs.declared.refusal.HttpRefusal.TheVariants.{BadRequest, NotFound, NotAllowed, LengthRequired, TooLarge, HeadTooLarge, NotImplemented}

-- ---- requests

-- the head of a request whose body has n bytes
abbrev pub request_head : ℕ → List ℕ
request_head n =
    codes "POST /links HTTP/1.1\r\nHost: localhost\r\nContent-Type: application/json\r\nContent-Length: "
    ++ (decimal n ++ codes "\r\nConnection: close\r\n\r\n")

abbrev pub request_message : List ℕ → List ℕ
request_message body = request_head (length body) ++ body

-- ---- replies

-- a status and its reason (RFC 9110, section 15; 431 is of RFC 6585, section 5)
abbrev pub status_text : ℕ → List ℕ
status_text status =
    if status == 200 then codes "200 OK"
    else if status == 400 then codes "400 Bad Request"
    else if status == 404 then codes "404 Not Found"
    else if status == 405 then codes "405 Method Not Allowed"
    else if status == 411 then codes "411 Length Required"
    else if status == 413 then codes "413 Content Too Large"
    else if status == 431 then codes "431 Request Header Fields Too Large"
    else if status == 500 then codes "500 Internal Server Error"
    else if status == 501 then codes "501 Not Implemented"
    else codes "503 Service Unavailable"

-- the statuses of replies
abbrev pub statuses : List ℕ
statuses = 200 ∷ 400 ∷ 404 ∷ 405 ∷ 411 ∷ 413 ∷ 431 ∷ 500 ∷ 501 ∷ 503 ∷ []

abbrev pub is_status : ℕ → Bool
is_status status = list_any (λ known. known == status) statuses

-- the field Allow, which a reply of 405 has (RFC 9110, section 15.5.6)
abbrev pub allow_line : ℕ → List ℕ
allow_line status = if status == 405 then codes "Allow: POST\r\n" else []

-- the head of a reply whose body has n bytes
abbrev pub reply_head : ℕ → ℕ → List ℕ
reply_head status n =
    codes "HTTP/1.1 " ++ (status_text status ++ (codes "\r\n" ++ (allow_line status
    ++ (codes "Content-Type: application/json\r\nContent-Length: " ++ (decimal n ++ codes "\r\nConnection: close\r\n\r\n")))))

abbrev pub reply_message : ℕ → List ℕ → List ℕ
reply_message status body = reply_head status (length body) ++ body

-- ---- refusals of requests

-- the status of the reply to a request that is refused
abbrev pub status_of : HttpRefusal → ℕ
status_of BadRequest = 400
status_of NotFound = 404
status_of NotAllowed = 405
status_of LengthRequired = 411
status_of TooLarge = 413
status_of HeadTooLarge = 431
status_of NotImplemented = 501

-- the word for why it is
abbrev pub code_of : HttpRefusal → List ℕ
code_of BadRequest = codes "bad-request"
code_of NotFound = codes "not-found"
code_of NotAllowed = codes "not-allowed"
code_of LengthRequired = codes "length-required"
code_of TooLarge = codes "too-large"
code_of HeadTooLarge = codes "head-too-large"
code_of NotImplemented = codes "not-implemented"

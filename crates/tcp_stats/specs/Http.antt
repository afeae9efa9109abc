-- A request for the metrics, and its answer.
use Rattle.std.specs.Prelude.{◌≡◌, ℕ, ◌<◌, ◌⊎◌, List, [], ◌++◌, length, codes, decimal, if◌then◌else◌}
use Rattle.std.specs.Str.{bytes_eq}
use Rattle.base_lines.specs.Parts.{first_part, is_byte}
use Rattle.httparse.specs.Grammar.{RequestHead, ReadsRequest, NeverHasRequest, MayBecomeRequest}
use Rattle.httparse.specs.Spans.{RequestOverflows}
use Rattle.tcp_stats.specs.declared.http.Extent.{Extent}
use Rattle.tcp_stats.specs.declared.http.Extent.TheVariants.{Whole, Head}
use Rattle.tcp_stats.specs.declared.http.HttpRequest.{HttpRequest}
use Rattle.tcp_stats.specs.declared.http.HttpRequest.TheVariants.{Metrics, NotFound, NotAllowed, Bad, Unfinished}
use Rattle.tcp_stats.specs.declared.http.TheConstants.{MOST_BYTES, MOST_FIELDS}

-- how much of an answer a method asks for: HEAD all but the body (RFC 9110, section 9.3.2)
abbrev pub extent_of : List ℕ → Extent
extent_of method = if bytes_eq method (codes "HEAD") then Head else Whole

-- the metrics are read by GET, and what is said of them by HEAD
abbrev pub metrics_by : List ℕ → HttpRequest
metrics_by method = if bytes_eq method (codes "GET") then Metrics Whole else (if bytes_eq method (codes "HEAD") then Metrics Head else NotAllowed)

-- the metrics are at /metrics, whatever query follows
abbrev pub asked_by : List ℕ → List ℕ → HttpRequest
asked_by method target =
    if bytes_eq (first_part (is_byte 63) target) (codes "/metrics") then metrics_by method else NotFound (extent_of method)

-- what a request with this head asks
abbrev pub asked_head : RequestHead → HttpRequest
asked_head head = asked_by head.method head.target

-- bytes begin with a head that asks this
abbrev pub HasHead : List ℕ → HttpRequest → Type 0
HasHead bytes request = (head : RequestHead) × (rest : List ℕ) × ReadsRequest bytes head rest × (request ≡ asked_head head)

-- why bytes are read as this request: its head is there; more has to come; or they never make a request with few enough fields and bytes
abbrev pub IsReason : List ℕ → HttpRequest → Type 0
IsReason bytes (Metrics extent) = HasHead bytes (Metrics extent)
IsReason bytes (NotFound extent) = HasHead bytes (NotFound extent)
IsReason bytes NotAllowed = HasHead bytes NotAllowed
IsReason bytes Unfinished = MayBecomeRequest bytes
IsReason bytes Bad = (MOST_BYTES < length bytes) ⊎ (NeverHasRequest bytes ⊎ RequestOverflows MOST_FIELDS bytes)

-- the status that answers a request
abbrev pub status : HttpRequest → List ℕ
status (Metrics extent) = codes "200 OK"
status (NotFound extent) = codes "404 Not Found"
status NotAllowed = codes "405 Method Not Allowed"
status Bad = codes "400 Bad Request"
status Unfinished = codes "408 Request Timeout"

-- the form of the body: that of Prometheus, or plain words
abbrev pub content_type : HttpRequest → List ℕ
content_type (Metrics extent) = codes "text/plain; version=0.0.4; charset=utf-8"
content_type _ = codes "text/plain; charset=utf-8"

-- the field that names the methods that are allowed, where another was asked
abbrev pub allowed : HttpRequest → List ℕ
allowed NotAllowed = codes "Allow: GET, HEAD\r\n"
allowed _ = []

-- the metrics, or what is wrong
abbrev pub body_of : HttpRequest → List ℕ → List ℕ
body_of (Metrics extent) metrics = metrics
body_of (NotFound extent) metrics = codes "The metrics are at /metrics.\n"
body_of NotAllowed metrics = codes "The metrics are read by GET.\n"
body_of Bad metrics = codes "This is no request that can be read.\n"
body_of Unfinished metrics = codes "The request took too long.\n"

-- the status line, and the field that says of what form the body is
unfoldable pub start_text : HttpRequest → List ℕ
start_text request = codes "HTTP/1.1 " ++ status request ++ codes "\r\nContent-Type: " ++ content_type request ++ codes "\r\n"

-- the field that says how long the body is
unfoldable pub length_text : ℕ → List ℕ
length_text length = codes "Content-Length: " ++ decimal length ++ codes "\r\n"

-- what is sent of the body that a GET is answered: nothing where all but the body is asked for
abbrev pub sent : HttpRequest → List ℕ → List ℕ
sent (Metrics Head) body = []
sent (NotFound Head) body = []
sent _ body = body

-- an answer whose fields tell of this body, behind which the connection is closed
abbrev pub answer_text : HttpRequest → List ℕ → List ℕ
answer_text request body =
    start_text request ++ length_text (length body) ++ allowed request ++ codes "Connection: close\r\n\r\n" ++ sent request body

abbrev pub response_text : HttpRequest → List ℕ → List ℕ
response_text request metrics = answer_text request (body_of request metrics)

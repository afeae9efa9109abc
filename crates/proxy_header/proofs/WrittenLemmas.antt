-- What is written of ends, read again.
use Rattle.std.proofs.Common.{◌≡◌, ℕ, ◌+◌, ◌<◌, ◌≤◌, List, [], ◌∷◌, ◌++◌, length, arith, refl, ◌∙◌, ap, Some, None, codes, decimal, length-append, subst}
use Rattle.std.proofs.lemmas.Fmt.{length-decimal-le}
use Rattle.std.specs.List.{AllByRecursion}
use Rattle.std.specs.Option.{option_map}
use Rattle.stick_key.specs.AddressOf.{GivesWhatIsSpelled, dotted_of, ipv6_of}
use Rattle.stick_key.specs.Dotted.{AreBytes, dotted}
use Rattle.stick_key.specs.Ipv6Printed.{ipv6}
use Rattle.stick_key.specs.KeyText.{PrintedReadsBack, Reads, text as printed}
use Rattle.stick_key.specs.declared.kind.KeyType.TheVariants.{Ip, Ipv6}
use Rattle.rule_addresses.specs.declared.address.Address.{Address}
use Rattle.rule_addresses.specs.declared.address.Address.TheVariants.{V4, V6}
use Rattle.proxy_header.specs.declared.ends.Ends.{Ends}
use Rattle.proxy_header.specs.declared.ends.Heard.TheVariants.{Told}
use Rattle.proxy_header.specs.declared.family.Family.{Family}
use Rattle.proxy_header.specs.declared.family.Family.TheVariants.{Ipv4 as Four, Ipv6 as Six}
use Rattle.proxy_header.specs.declared.writing.Version.{Version}
use Rattle.proxy_header.specs.declared.writing.Version.TheVariants.{One, Two}
use Rattle.proxy_header.specs.Header.{heard}
use Rattle.proxy_header.specs.Laws.{IsEnds, WrittenLaw, WrittenRoomLaw, told_in}
use Rattle.proxy_header.specs.Line.{address_in, ends_of, heard_line, told_ends}
use Rattle.proxy_header.specs.Written.{family_of, line, spaced, text_of, words_of, written}
use Rattle.proxy_header.proofs.HeardLemmas.{heard_stays}
use Rattle.proxy_header.proofs.VisibleLemmas.{AreVisible, length-text, visible-decimal, visible-text}
use Rattle.proxy_header.proofs.WrittenBinary.{fixed, heard_fixed, length-block, ports, reads_ipv4, reads_ipv6, reads_none}
use Rattle.proxy_header.proofs.WrittenLine.{reads_port, reads_words}

-- the text of an address is read as the address
reads_dotted : GivesWhatIsSpelled → PrintedReadsBack → (bytes : List ℕ) → AreBytes bytes → length bytes ≡ 4 → dotted_of (dotted bytes) ≡ Some bytes
reads_dotted gives back bytes are four =
    let same : printed Ip bytes ≡ dotted bytes = rw four refl in
    (gives (dotted bytes) bytes).0.1 (subst (λ text. Reads Ip text bytes) same (back Ip bytes are four tt))

reads_ipv6_text : GivesWhatIsSpelled → PrintedReadsBack → (bytes : List ℕ) → AreBytes bytes → length bytes ≡ 16 → ipv6_of (ipv6 bytes) ≡ Some bytes
reads_ipv6_text gives back bytes are sixteen =
    let same : printed Ipv6 bytes ≡ ipv6 bytes = rw sixteen refl in
    (gives (ipv6 bytes) bytes).1.1 (subst (λ text. Reads Ipv6 text bytes) same (back Ipv6 bytes are sixteen tt))

-- the words of ends
visible-words : (ends : Ends) → IsEnds ends → AllByRecursion AreVisible (words_of ends)
visible-words ends is = (
  visible-text ends.source is.source,
  (
    visible-text ends.destination is.destination,
    (visible-decimal ends.source_port (omega (arith, is.source_port)), (visible-decimal ends.destination_port (omega (arith, is.destination_port)), tt)),
  ),
)

visible-proxy : AreVisible (codes "PROXY")
visible-proxy = (omega arith, (omega arith, (omega arith, (omega arith, (omega arith, tt)))))

visible-tcp4 : AreVisible (codes "TCP4")
visible-tcp4 = (omega arith, (omega arith, (omega arith, (omega arith, tt))))

visible-tcp6 : AreVisible (codes "TCP6")
visible-tcp6 = (omega arith, (omega arith, (omega arith, (omega arith, tt))))

-- a line of five words behind PROXY
abbrev ends_line : List ℕ → Ends → List ℕ
ends_line protocol ends = line (codes "PROXY" ∷ protocol ∷ words_of ends)

length-words : (a b c d : List ℕ) → length a ≤ 40 → length b ≤ 40 → length c ≤ 5 → length d ≤ 5 → length (spaced (a ∷ b ∷ c ∷ d ∷ [])) ≤ 93
length-words a b c d few_a few_b few_c few_d =
    omega (arith, few_a, few_b, few_c, few_d, length-append a (32 ∷ (b ++ (32 ∷ (c ++ (32 ∷ d))))), length-append b (32 ∷ (c ++ (32 ∷ d))), length-append c (32 ∷ d))

length-ends : (ends : Ends) → IsEnds ends → length (spaced (words_of ends)) ≤ 93
length-ends ends is =
    length-words (text_of ends.source) (text_of ends.destination) (decimal ends.source_port) (decimal ends.destination_port)
    (length-text ends.source is.source) (length-text ends.destination is.destination)
    (length-decimal-le 5 ends.source_port (omega arith) (omega (arith, is.source_port)) (omega (arith, is.source_port)))
    (length-decimal-le 5 ends.destination_port (omega arith) (omega (arith, is.destination_port)) (omega (arith, is.destination_port)))

length-tcp4 : (ends : Ends) → IsEnds ends → length (ends_line (codes "TCP4") ends) ≤ 107
length-tcp4 ends is = omega (arith, length-ends ends is, length-append (spaced (words_of ends)) (codes "\r\n"))

length-tcp6 : (ends : Ends) → IsEnds ends → length (ends_line (codes "TCP6") ends) ≤ 107
length-tcp6 ends is = omega (arith, length-ends ends is, length-append (spaced (words_of ends)) (codes "\r\n"))

-- a line is read by its words
tcp4_line : (ends : Ends) → IsEnds ends → heard (ends_line (codes "TCP4") ends) ≡ told_ends (length (ends_line (codes "TCP4") ends)) (ends_of Four (words_of ends))
unfolding heard
tcp4_line ends is = reads_words (codes "PROXY" ∷ codes "TCP4" ∷ words_of ends) (omega arith) (visible-proxy, (visible-tcp4, visible-words ends is)) (length-tcp4 ends is)

tcp6_line : (ends : Ends) → IsEnds ends → heard (ends_line (codes "TCP6") ends) ≡ told_ends (length (ends_line (codes "TCP6") ends)) (ends_of Six (words_of ends))
unfolding heard
tcp6_line ends is = reads_words (codes "PROXY" ∷ codes "TCP6" ∷ words_of ends) (omega arith) (visible-proxy, (visible-tcp6, visible-words ends is)) (length-tcp6 ends is)

unknown_line : heard (line (codes "PROXY" ∷ codes "UNKNOWN" ∷ [])) ≡ Told 15 None
unfolding heard heard_line
unknown_line = refl

-- the words of ends are read as the ends
reads_ends : (family : Family) (source destination : Address) (p q : ℕ) → address_in family (text_of source) ≡ Some source → address_in family (text_of destination) ≡ Some destination →
    p < 65536 → q < 65536 → ends_of family (text_of source ∷ text_of destination ∷ decimal p ∷ decimal q ∷ []) ≡ Some (record { source = source; destination = destination; source_port = p; destination_port = q })
reads_ends family source destination p q is_source is_destination small_p small_q = rw (is_source, is_destination, reads_port p small_p, reads_port q small_q) refl

-- ends of four parts
abbrev made : Address → Address → ℕ → ℕ → Ends
made source destination p q = record { source = source; destination = destination; source_port = p; destination_port = q }

-- what is written is read, by the kinds of both addresses
abbrev ReadsIn : Version → Ends → Type 0
ReadsIn version ends = heard (written version ends) ≡ Told (length (written version ends)) (told_in (family_of ends) ends)

reads_line : GivesWhatIsSpelled → PrintedReadsBack → (source destination : Address) (p q : ℕ) → IsEnds (made source destination p q) → ReadsIn One (made source destination p q)
reads_line gives back (V4 a) (V4 b) p q is =
    let ends : Ends = made (V4 a) (V4 b) p q in
    tcp4_line ends is ∙ ap (told_ends (length (ends_line (codes "TCP4") ends)))
    (reads_ends Four (V4 a) (V4 b) p q (ap (option_map V4) (reads_dotted gives back a is.source.0 is.source.1)) (ap (option_map V4) (reads_dotted gives back b is.destination.0 is.destination.1))
    is.source_port is.destination_port)
reads_line gives back (V6 a) (V6 b) p q is =
    let ends : Ends = made (V6 a) (V6 b) p q in
    tcp6_line ends is ∙ ap (told_ends (length (ends_line (codes "TCP6") ends)))
    (reads_ends Six (V6 a) (V6 b) p q (ap (option_map V6) (reads_ipv6_text gives back a is.source.0 is.source.1)) (ap (option_map V6) (reads_ipv6_text gives back b is.destination.0 is.destination.1))
    is.source_port is.destination_port)
reads_line gives back (V4 a) (V6 b) p q is = unknown_line
reads_line gives back (V6 a) (V4 b) p q is = unknown_line

length-fixed : (kind count n : ℕ) (a b : List ℕ) (p q : ℕ) → length a ≡ n → length b ≡ n → 20 + n + n ≡ length (fixed kind count (a ++ (b ++ ports p q)))
length-fixed kind count n a b p q long_a long_b = omega (arith, length-block n a b p q long_a long_b)

reads_binary : (source destination : Address) (p q : ℕ) → IsEnds (made source destination p q) → ReadsIn Two (made source destination p q)
reads_binary (V4 a) (V4 b) p q is =
    heard_fixed 0x11 12 (a ++ (b ++ ports p q)) ∙ reads_ipv4 a b p q is.source.1 is.destination.1 is.source_port is.destination_port
    ∙ ap (λ n. Told n (Some (made (V4 a) (V4 b) p q))) (length-fixed 0x11 12 4 a b p q is.source.1 is.destination.1)
reads_binary (V6 a) (V6 b) p q is =
    heard_fixed 0x21 36 (a ++ (b ++ ports p q)) ∙ reads_ipv6 a b p q is.source.1 is.destination.1 is.source_port is.destination_port
    ∙ ap (λ n. Told n (Some (made (V6 a) (V6 b) p q))) (length-fixed 0x21 36 16 a b p q is.source.1 is.destination.1)
reads_binary (V4 a) (V6 b) p q is = heard_fixed 0 0 [] ∙ reads_none
reads_binary (V6 a) (V4 b) p q is = heard_fixed 0 0 [] ∙ reads_none

reads : GivesWhatIsSpelled → PrintedReadsBack → (version : Version) (ends : Ends) → IsEnds ends → ReadsIn version ends
reads gives back One ends is = reads_line gives back ends.source ends.destination ends.source_port ends.destination_port is
reads gives back Two ends is = reads_binary ends.source ends.destination ends.source_port ends.destination_port is

pub written_law : GivesWhatIsSpelled → PrintedReadsBack → WrittenLaw
written_law gives back version ends more is =
    let read = reads gives back version ends is in
    heard_stays (written version ends) more (λ unfinished. cc) ∙ read

-- how long what is written is
line_room : (source destination : Address) (p q : ℕ) → IsEnds (made source destination p q) → length (written One (made source destination p q)) ≤ 107
line_room (V4 a) (V4 b) p q is = length-tcp4 (made (V4 a) (V4 b) p q) is
line_room (V6 a) (V6 b) p q is = length-tcp6 (made (V6 a) (V6 b) p q) is
line_room (V4 a) (V6 b) p q is = omega arith
line_room (V6 a) (V4 b) p q is = omega arith

binary_room : (source destination : Address) (p q : ℕ) → IsEnds (made source destination p q) → length (written Two (made source destination p q)) ≤ 107
binary_room (V4 a) (V4 b) p q is = omega (arith, length-fixed 0x11 12 4 a b p q is.source.1 is.destination.1)
binary_room (V6 a) (V6 b) p q is = omega (arith, length-fixed 0x21 36 16 a b p q is.source.1 is.destination.1)
binary_room (V4 a) (V6 b) p q is = omega arith
binary_room (V6 a) (V4 b) p q is = omega arith

pub written_room : WrittenRoomLaw
written_room One ends is = line_room ends.source ends.destination ends.source_port ends.destination_port is
written_room Two ends is = binary_room ends.source ends.destination ends.source_port ends.destination_port is

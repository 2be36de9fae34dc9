-- Document 02, E10, on both sides: line calls on bytes, as statements over lists. Assumes nothing.
use Rattle.std.specs.Prelude.{ℕ, ◌≡◌, refl, List, [], ◌∷◌, ◌++◌, length, replicate}
use Rattle.buffer.specs.Bytes.{byte, bytes}
use Rattle.demands.specs.Examples.{Says, prints, put_as}
use Rattle.demands.specs.HeadExamples.{Call, call, answered, owed}

-- a record from the device (source 0) or a host (1) with a level and a message, and nothing else
abbrev pub message : ℕ → ℕ → List ℕ → List ℕ
message source level m = source ∷ level ∷ replicate 11 0 ++ length m ∷ 0 ∷ m

-- an INFO message of the device, by `{s}` without colour
abbrev said : List ℕ → List ℕ → Call
said m x = call 0 (message 0 3 m) (bytes "{s}") (prints x)

-- "messages .. of more than two lines (Rust's `lines`) whose last two have the starts and ends it tests"; "Where either of those two is only its
-- opening mark the crate panics; here the message is ordinary text"
abbrev pub reports : List Call
reports =
    said (bytes "assert\n left: `1`\nright: `2`") (bytes "assert\ndiff < left / right >\n<1\n>2")
    ∷ said (bytes " left: `1`\nright: `2`") (bytes " left: `1`\nright: `2`")
    ∷ said (bytes "x\n left: `\nright: `2`") (bytes "x\n left: `\nright: `2`")
    ∷ said (bytes "x\n left: `1`\nright: `") (bytes "x\n left: `1`\nright: `")
    ∷ said (bytes "x\n left: ``\nright: `2`\n") (bytes "x\ndiff < left / right >\n<\n>2")
    ∷ said (bytes "x\n left: `1`\nright: `2`\r") (bytes "x\n left: `1`\nright: `2`\r")
    ∷ said (bytes "x\n left: `1`\nright: `2`\n\n") (bytes "x\n left: `1`\nright: `2`\n\n")
    ∷ said (bytes "a\r\nb\n left: `x`\nright: `x`") (bytes "a\nb\ndiff < left / right >\n<x\n>x")
    ∷ said (bytes "\n left: `é`\r\nright: `ĩ`\r\n") (bytes "\ndiff < left / right >\n<é\n>ĩ")
    ∷ said (bytes "x\n left: ```\nright: `a`b`") (bytes "x\ndiff < left / right >\n<`\n>a`b")
    ∷ said (bytes "x\nleft: `1`\nright: `2`") (bytes "x\nleft: `1`\nright: `2`")
    ∷ []

-- the comparison of two values, from a source and with a level
abbrev pub reporting : ℕ → ℕ → List ℕ → List ℕ → List ℕ
reporting source level l r = message source level (bytes "x\n left: `" ++ l ++ bytes "`\nright: `" ++ r ++ bytes "`")

-- in colour: the head and the title, then the values
abbrev pub titled : List ℕ
titled = bytes "\u{1b}[1mx\u{1b}[0m\n\u{1b}[1mdiff\u{1b}[0m \u{1b}[31m< left\u{1b}[0m / \u{1b}[32mright >\u{1b}[0m\n"

-- "the longest shared beginning, then the longest shared end of what remains, in whole characters": by `{s}` in straight colour
abbrev shares : List ℕ → List ℕ → List ℕ → Call
shares l r x = call 3 (reporting 0 3 l r) (bytes "{s}") (prints (titled ++ x))

-- what counts as equal
abbrev pub sharing : List Call
sharing =
    shares (bytes "aaa") (bytes "aa") (bytes "\u{1b}[31m<\u{1b}[0m\u{1b}[31maa\u{1b}[0m\u{1b}[1;31ma\u{1b}[0m\n\u{1b}[32m>\u{1b}[0m\u{1b}[32maa\u{1b}[0m")
    ∷ shares (bytes "é") (bytes "ĩ") (bytes "\u{1b}[31m<\u{1b}[0m\u{1b}[1;31mé\u{1b}[0m\n\u{1b}[32m>\u{1b}[0m\u{1b}[1;32mĩ\u{1b}[0m")
    ∷ shares (bytes "1.25") (bytes "1.5") (bytes "\u{1b}[31m<\u{1b}[0m\u{1b}[31m1.\u{1b}[0m\u{1b}[1;31m2\u{1b}[0m\u{1b}[31m5\u{1b}[0m\n\u{1b}[32m>\u{1b}[0m\u{1b}[32m1.\u{1b}[0m\u{1b}[32m5\u{1b}[0m")
    ∷ []

-- "device messages, prints without level included": a host's message is as it is, and a print is laid out in plain and in colour; `{s}` shows a layout without a
-- width, style or colour of its own
abbrev pub sources : List Call
sources =
    call 0 (reporting 1 3 (bytes "1") (bytes "2")) (bytes "{s}") (prints (bytes "x\n left: `1`\nright: `2`"))
    ∷ call 0 (reporting 0 0 (bytes "1") (bytes "2")) (bytes "{L} {s}") (prints (bytes "x\ndiff < left / right >\n<1\n>2"))
    ∷ call 3 (reporting 0 0 (bytes "1") (bytes "1")) (bytes "{L} {s}") (prints (titled ++ bytes "\u{1b}[31m<\u{1b}[0m\u{1b}[31m1\u{1b}[0m\n\u{1b}[32m>\u{1b}[0m\u{1b}[32m1\u{1b}[0m"))
    ∷ call 3 (reporting 0 3 (bytes "1") (bytes "1")) (bytes "{s:blue:>60}") (prints (titled ++ bytes "\u{1b}[31m<\u{1b}[0m\u{1b}[31m1\u{1b}[0m\n\u{1b}[32m>\u{1b}[0m\u{1b}[32m1\u{1b}[0m"))
    ∷ []

-- a bold group of width 90 around the layout of `ab` and `ba`: 31 characters are visible of it
abbrev dressed : List ℕ
dressed =
    bytes "\u{1b}[1m\u{1b}[1mx\u{1b}[0m\u{1b}[1m\n\u{1b}[1mdiff\u{1b}[0m\u{1b}[1m \u{1b}[31m< left\u{1b}[0m\u{1b}[1m / \u{1b}[32mright >\u{1b}[0m\u{1b}[1m\n"
    ++ bytes "\u{1b}[31m<\u{1b}[0m\u{1b}[1m\u{1b}[1;31mab\u{1b}[0m\u{1b}[1m\n\u{1b}[32m>\u{1b}[0m\u{1b}[1m\u{1b}[1;32mba\u{1b}[0m\u{1b}[1m"

-- one comparison in three modes: a group around it pads and colours as ever, and in the crate's mode the 32 bytes inserted count against the padding
abbrev pub modes : List Call
modes =
    call 0 (reporting 0 3 (bytes "ab") (bytes "ba")) (bytes "{{s}%bold%90}") (prints (bytes "x\ndiff < left / right >\n<ab\n>ba" ++ replicate 59 (byte " ")))
    ∷ call 3 (reporting 0 3 (bytes "ab") (bytes "ba")) (bytes "{{s}%bold%90}") (prints (dressed ++ replicate 59 (byte " ") ++ bytes "\u{1b}[0m"))
    ∷ call 1 (reporting 0 3 (bytes "ab") (bytes "ba")) (bytes "{{s}%bold%90}") (prints (dressed ++ replicate 27 (byte " ") ++ bytes "\u{1b}[0m"))
    ∷ []

-- the definitions answer so: which messages are laid out
pub comparisons_laid : answered 100 reports ≡ owed reports
unfolding answered owed put_as
comparisons_laid = refl

-- what counts as equal
pub comparisons_shared : answered 400 sharing ≡ owed sharing
unfolding answered owed put_as
comparisons_shared = refl

-- from where, and with which level
pub comparisons_from : answered 400 sources ≡ owed sources
unfolding answered owed put_as
comparisons_from = refl

-- and in each mode
pub comparisons_in_modes : answered 400 modes ≡ owed modes
unfolding answered owed put_as
comparisons_in_modes = refl

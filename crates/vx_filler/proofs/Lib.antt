mod FilledRows
mod FirstRows

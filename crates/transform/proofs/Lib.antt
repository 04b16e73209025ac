mod TableFilled
mod FilledTransform

mod Conversions
